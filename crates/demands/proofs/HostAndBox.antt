-- Host and box on one line. Assumes nothing.
use Prim.Native.Nat.{ℕ, zero, suc, ◌-◌, ◌≤◌, ◌<◌}
use mathlib.Core.Bool.{Bool, true, false, cond, not, false≢true, and-false, ◌&&◌}
use mathlib.Core.Path.{◌≡◌, refl, sym, ap, subst, ◌∙◌}
use mathlib.Core.List.{List, [], ◌∷◌}
use native.Mathlib.Omega.{arith}
use borrow.Author.Tests.{eqb-true, eqb-false, eq-eqb, ne_eqb, lt-ltb}
use lib.Dec.{eqb, leb, ltb}
use lib.ListN.{length, get_or, length-take, length-replicate}
use lib.Seq.{take-append_seam}
use Rattle.std.specs.Prelude.{Option, Some, None}
use Rattle.models.specs.declared.Model.{Model}
use Rattle.std.proofs.Common.{Option, Some, None}
use Rattle.codes.specs.declared.Code.{Code}
use Rattle.settings.specs.Settings.{settings, set_code, get_code, byte_count, values_of, row_count, most_values, kind_row, power_row, tiling_row, off}
use Rattle.codes.specs.Found.{found_by}
use Rattle.models.specs.Models.{allowed_for}
use Rattle.lists.proofs.Both.{both}
use Rattle.settings.proofs.Laws.{byte-count-few}
use Rattle.codes.proofs.Laws.{IsFound, found_right}
use Rattle.models.proofs.Filled.{filled-other, filled_there}
use Rattle.tiling.specs.Kinds.{largest, in_wall}
use Rattle.lists.proofs.Each.{alike}
use Rattle.packet.specs.declared.Edition.{Edition}
use Rattle.packet.specs.Edition.{carries}
use Rattle.packet.specs.declared.Control.{Control}
use Rattle.packet.specs.Packet.{group_id, packet_of, most_data}
use Rattle.packet.specs.Control.{control_data}
use Rattle.packet.specs.Reading.{reading_of}
use Rattle.packet.specs.Answered.{is_heard}
use Rattle.packet.proofs.EachEdition.{head_few, group-none}
use Rattle.packet.proofs.Packets.{packet_verdict, packet_data_lem}
use Rattle.panels.specs.declared.Panel.{Panel}
use Rattle.panels.specs.Wall.{Wall, model_of, blank, place_of, panels_of}
use Rattle.panels.specs.WellFormed.{GoodPanel}
use Rattle.panels.proofs.Laws.{place_there}
use Rattle.panels.proofs.Formed.{good_at}
use Rattle.answers.specs.Judged.{command, off_already, held_then, takes, judge, reply_by}
use Rattle.answers.specs.Played.{played}
use Rattle.answers.specs.Reply.{word_from, report_from, sent_bytes}
use Rattle.answers.proofs.Readings.{answered-intact}
use Rattle.requests.proofs.Sets.{may_many}
use Rattle.requests.specs.declared.Request.{Request}
use Rattle.requests.specs.declared.Said.{Said}
use Rattle.requests.specs.Request.{values_of as request_values, request_data, request_packet, is_power_off, may_set, is_taken, is_request}
use Rattle.lists.specs.Lists.{same}
use Rattle.requests.specs.Said.{is_control, is_report, ended_by, word_in}
use Rattle.host.specs.declared.End.{End}
use Rattle.host.specs.Heard.{said_by, said_to}
use Rattle.host.specs.Machine.{start, burst, mark, idle, State, Move, sendings, most_sendings, over, begun, again, nav_ends, ending, heard, telling, step}
use Rattle.requests.proofs.Packets.{packet_reads}
use Rattle.demands.specs.HostAndBox.{asking, waiting, past_wall, EndsWith, Lossless}
use Rattle.demands.proofs.Tiling.{in_own_wall, value_at, held-allowed, host_tiling}

-- no setting's get code is 0
codes_some : (row : ℕ) → kind_row < row → row < row_count → eqb (get_code row) 0 ≡ false
unfolding settings
codes_some row s h =
    let k : suc (row - 1) ≡ row = omega arith in
    rw k at (alike (λ j. eqb (get_code (suc j)) 0) (λ j. false) (row_count - 1) refl {k = row - 1} (omega arith))

-- The box answers a request to a panel that is there as that panel judges it.
word_report : (model : Model) (code row : ℕ) (values : List ℕ) → found_by code ≡ Some (Code.Get row) → eqb (get_code row) 0 ≡ false
    → allowed_for model row values ≡ true → word_in model code (get_code row ∷ values) ≡ (Some Said.Report)
unfolding word_in is_control same ended_by is_report
word_report model code row values found not_zero allowed = rw (not_zero, found, eq-eqb (get_code row) _ refl, allowed)

-- What the host may ask a panel takes, but for a power off while off, and for a tiling past its own wall.
not_not : (t : Bool) → not (not t) ≡ t
not_not true = refl
not_not false = refl

tiling_count : byte_count tiling_row ≡ 4
unfolding settings
tiling_count = refl

-- of a tiling that leaves the wall open
open_wall : (p : Panel) (vs : List ℕ) → length vs ≡ 4 → may_set (model_of p) tiling_row vs ≡ true → get_or vs 3 0 ≡ 0
    → allowed_for (model_of p) tiling_row (held_then tiling_row vs p) ≡ not (past_wall tiling_row vs p)
open_wall p (enable ∷ frame ∷ position ∷ byte ∷ []) n may none =
    let zeroed = eq-eqb byte 0 none in
    let (flag, rest) = both (leb enable 1) _ (sym (host_tiling (model_of p) enable frame position byte).0 ∙ may) in
    let (frames, _) = both (leb frame 1) _ rest in
    held-allowed p enable frame position byte
    ∙ rw (flag, frames, zeroed)
    (in_own_wall p.values position (get_or p.values 5 0) ∙ ap (in_wall (model_of p).kind position) (sym (value_at p.values 3 (omega arith))) ∙ sym (not_not _))
open_wall p [] n may none = absurd (omega arith)
open_wall p (a ∷ []) n may none = absurd (omega arith)
open_wall p (a ∷ b ∷ []) n may none = absurd (omega arith)
open_wall p (a ∷ b ∷ c ∷ []) n may none = absurd (omega arith)
open_wall p (a ∷ b ∷ c ∷ d ∷ x ∷ l) n may none = absurd (omega arith)

may_hold : (p : Panel) (row : ℕ) (vs : List ℕ) → may_set (model_of p) row vs ≡ true
    → allowed_for (model_of p) row (held_then row vs p) ≡ not (past_wall row vs p)
may_hold p row vs may = go (eqb row tiling_row) (eqb (get_or vs 3 0) 0) refl refl
  where
    model : Model
    model = model_of p

    own : ℕ
    own = get_or (values_of row p.values) 3 0

    go : (t z : Bool) → eqb row tiling_row ≡ t → eqb (get_or vs 3 0) 0 ≡ z → allowed_for model row (held_then row vs p) ≡ not (past_wall row vs p)
    go false z et ez =
        let ne = eqb-false row tiling_row et in
        ap (allowed_for model row) (filled-other row own vs ne ∙ sym (filled-other row (largest model.kind) vs ne)) ∙ may ∙ sym (rw et)
    go true false et ez =
        let ne = eqb-false (get_or vs 3 0) 0 ez in
        ap (allowed_for model row) (filled_there row own vs ne ∙ sym (filled_there row (largest model.kind) vs ne)) ∙ may ∙ sym (rw (et, ez))
    go true true et ez =
        let same_row = eqb-true row tiling_row et in
        let four = may_many model row vs may in
        subst (λ (r : ℕ). allowed_for model r (held_then r vs p) ≡ not (past_wall r vs p)) (sym same_row)
        (open_wall p vs (four ∙ ap byte_count same_row ∙ tiling_count) (subst (λ (r : ℕ). may_set model r vs ≡ true) same_row may) (eqb-true (get_or vs 3 0) 0 ez))

module _ (edition : Edition) (w : Wall) (r : Request) (k : ℕ) (asked : is_request edition r ≡ true) (due : is_heard r.id r.group ≡ true) (there : place_of r.id w ≡ Some k)
    (told : model_of (get_or w k blank) ≡ r.model) where
  abbrev panel : Panel
  panel = get_or w k blank

  box_answers : (played edition w (request_packet edition r)).reply ≡ reply_by r.id (judge (command (request_data r)) panel)
  box_answers =
      let (verdict, part) = packet_reads edition r asked in
      rw (answered-intact w (reading_of edition (request_packet edition r)) _ _ _ verdict, part, due, there)

  -- and the host, which waits and has sent the packet so often, hears one from that panel
  starts : (step (idle edition) (start r)).next ≡ waiting edition r 1
  unfolding step begun
  starts = rw (asked, due)

  sends : (n : ℕ) → suc n < most_sendings → (step (waiting edition r (suc n)) mark).next ≡ waiting edition r (suc (suc n))
  unfolding step again
  sends n h = rw (length-replicate, lt-ltb 0 (suc n) (omega arith), lt-ltb (suc n) most_sendings h)

  waits_on : (n : ℕ) → n < most_sendings → asking edition r n ≡ waiting edition r (suc n)
  waits_on zero h = starts
  waits_on (suc n) h = ap (λ (s : State). (step s mark).next) (waits_on n (omega arith)) ∙ sends n h

  -- what is heeded has no damage
  untold : (s : State) (d : List ℕ) (w : Option Said) → telling None (ending s d w) ≡ ending s d w
  unfolding ending again
  untold s d (Some Said.Ack) = refl
  untold s d (Some Said.Nack) = go (ltb (sendings s) most_sendings) refl refl
    where
      go : (t : Bool) {m o : Move} → telling None m ≡ m → telling None o ≡ o → telling None (cond t m o) ≡ cond t m o
      go true h k = h
      go false h k = k
  untold s d (Some Said.Nav) = refl
  untold s d (Some Said.Report) = refl
  untold s d None = refl

  -- NAV to a power off
  power_off_lem : (row : ℕ) → found_by r.code ≡ Some (Code.Set row) → off_already row (request_values r) panel ≡ true → is_power_off r ≡ true
  unfolding off_already is_power_off same
  power_off_lem row found e =
      let (at, sets) = both (eqb row power_row) _ e in
      let code = sym (subst (IsFound r.code) found (found_right r.code)).1 ∙ ap set_code (eqb-true row power_row at) in
      rw (eq-eqb r.code (set_code power_row) code) (both (same (request_values r) off) _ sets).0

  nav_ends_lem : (n : ℕ) → is_power_off r ≡ true → nav_ends (waiting edition r (suc n)) ≡ cond (eqb (suc n) 1) End.Nav End.OffOrRefused
  unfolding nav_ends
  nav_ends_lem zero e = rw e
  nav_ends_lem (suc n) e = rw (e, length-replicate, lt-ltb 1 (suc (suc n)) (omega arith), ne_eqb (suc (suc n)) 1 (λ d. omega arith))

  -- and to any other request
  not_power : (row : ℕ) → found_by r.code ≡ Some (Code.Set row) → past_wall row (request_values r) panel ≡ true → is_power_off r ≡ false
  unfolding is_power_off same settings
  not_power row found e =
      let (at, _) = both (eqb row tiling_row) _ (both (eqb row tiling_row && eqb (get_or (request_values r) 3 0) 0) _ e).0 in
      let code = sym (subst (IsFound r.code) found (found_right r.code)).1 ∙ ap set_code (eqb-true row tiling_row at) in
      rw code

  nav_plain : (n : ℕ) → is_power_off r ≡ false → nav_ends (waiting edition r (suc n)) ≡ End.Nav
  unfolding nav_ends
  nav_plain n e = rw e

  hears : (n : ℕ) → n < most_sendings → (d : List ℕ) → length d ≤ most_data edition
      → step (asking edition r n) (burst (packet_of edition r.id (group_id 0) d)) ≡ ending (waiting edition r (suc n)) d (word_in r.model r.code d)
  unfolding step heard said_to said_by
  hears n few d short =
      rw (waits_on n few, length-replicate, lt-ltb 0 (suc n) (omega arith), packet_data_lem edition r.id (group_id 0) d short, packet_verdict edition r.id (group_id 0) d short, group-none edition, eq-eqb r.id.0 _ refl)
      (untold (waiting edition r (suc n)) d (word_in r.model r.code d))

  -- a set to which the panel says the word
  set-ends : (n : ℕ) → n < most_sendings → (row : ℕ) → found_by r.code ≡ Some (Code.Set row)
      → allowed_for (model_of panel) row (held_then row (request_values r) panel) ≡ not (past_wall row (request_values r) panel)
      → (off past : Bool) → off_already row (request_values r) panel ≡ off → past_wall row (request_values r) panel ≡ past
      → EndsWith edition (Some (Code.Set row)) r panel (suc n) (step (asking edition r n) (burst (sent_bytes edition (played edition w (request_packet edition r)).reply)))
  unfolding command takes judge sent_bytes ending
  set-ends n few row found allowed true past e f =
      let reply : (played edition w (request_packet edition r)).reply ≡ word_from r.id Control.Nav = box_answers ∙ rw (found, allowed, e, and-false (not (past_wall row (request_values r) panel))) in
      rw (reply, e) (hears n few (control_data Control.Nav) (omega (arith, head_few edition)) ∙ (unfold word_in is_control same in ap (λ (e : End). over (waiting edition r (suc n)) [] e []) (nav_ends_lem n (power_off_lem row found e))))
  set-ends n few row found allowed false true e f =
      let reply : (played edition w (request_packet edition r)).reply ≡ word_from r.id Control.Nav = box_answers ∙ rw (found, allowed, f) in
      rw (reply, e, f) (hears n few (control_data Control.Nav) (omega (arith, head_few edition)) ∙ (unfold word_in is_control same in ap (λ (e : End). over (waiting edition r (suc n)) [] e []) (nav_plain n (not_power row found f))))
  set-ends n few row found allowed false false e f =
      let reply : (played edition w (request_packet edition r)).reply ≡ word_from r.id Control.Ack = box_answers ∙ rw (found, allowed, e, f) in
      rw (reply, e, f) (hears n few (control_data Control.Ack) (omega (arith, head_few edition)) ∙ (unfold word_in is_control same ended_by in rw found))

  ends : (n : ℕ) → n < most_sendings → GoodPanel panel → (f : Option Code) → found_by r.code ≡ f → is_taken r f ≡ true
      → EndsWith edition f r panel (suc n) (step (asking edition r n) (burst (sent_bytes edition (played edition w (request_packet edition r)).reply)))
  unfolding is_taken command judge sent_bytes ending
  ends n few good None found t = absurd (false≢true t)
  ends n few good (Some (Code.Set row)) found t =
      let may = (both (not (eqb r.group.0 255)) _ t).1 in
      set-ends n few row found (may_hold panel row (request_values r) (subst (λ (m : Model). may_set m row (request_values r) ≡ true) (sym told) may)) (off_already row (request_values r) panel) (past_wall row (request_values r) panel) refl refl
  ends n few good (Some (Code.Get row)) found t =
      let none = eqb-true r.count 0 (both (eqb r.count 0) _ t).0 in
      let (in_table, _, setting) = subst (IsFound r.code) found (found_right r.code) in
      let d = get_code row ∷ values_of row panel.values in
      let short : length d ≤ most_data edition = simp length-take (omega (arith, head_few edition, byte-count-few in_table)) in
      let reply : (played edition w (request_packet edition r)).reply ≡ report_from r.id d = box_answers ∙ rw (found, none) in
      let sent : sent_bytes edition (report_from r.id d) ≡ packet_of edition r.id (group_id 0) d = ap (packet_of edition r.id (group_id 0)) (take-append_seam d _) in
      let not_zero = codes_some row setting in_table in
      rw (reply, sent)
      (hears n few d short ∙ ap (ending (waiting edition r (suc n)) d) (word_report r.model r.code row (values_of row panel.values) found not_zero (subst (λ (m : Model). allowed_for m row (values_of row panel.values) ≡ true) told (good.in_range row in_table))))

pub lossless : Lossless
unfolding is_request
lossless edition t f r k n asked due there told few =
    let h = (place_there r.id (panels_of t) k there).0 in
    ends edition (panels_of t) r k asked due there told n few (good_at (panels_of t) f.good k h) (found_by r.code) refl (both (carries edition r.group) _ (both (leb r.count most_values) _ asked).1).1
