-- Demand 2. Assumes nothing.
use Prim.Native.Nat.{ℕ, ◌<◌}
use mathlib.Core.Bool.{Bool, true, false, cond}
use mathlib.Core.Logic.{◌⊎◌, inl, inr}
use mathlib.Core.Path.{◌≡◌, refl, sym, ap, ◌∙◌}
use mathlib.Core.List.{[], ◌∷◌}
use lib.ListN.{length, get_or}
use Rattle.std.proofs.lemmas.List.{get_or-map}
use Rattle.std.specs.Prelude.{Option, Some, None, is_some, Result, Ok}
use Rattle.codes.proofs.Laws.{get_found}
use Rattle.packet.specs.declared.MonitorId.{MonitorId}
use Rattle.packet.specs.declared.GroupId.{GroupId}
use Rattle.packet.specs.declared.Control.{Control}
use Rattle.packet.specs.declared.Verdict.{Verdict}
use Rattle.packet.specs.Reading.{Reading, reading_of}
use Rattle.packet.proofs.Packets.{packet_verdict, packet_data_lem}
use Rattle.panels.specs.declared.Panel.{Panel}
use Rattle.panels.specs.Wall.{Wall, blank, panels_of, place_of}
use Rattle.packet.specs.Answered.{is_heard}
use Rattle.panels.specs.Addressed.{reaches}
use Rattle.panels.specs.declared.Table.{Table}
use Rattle.panels.specs.WellFormed.{GoodPanel, GoodWall, WellFormed}
use Rattle.panels.proofs.Laws.{place_there}
use Rattle.panels.proofs.Formed.{empty_formed, good_at}
use Rattle.table_calls.proofs.Formed.{added_formed, removed_formed}
use Rattle.answers.specs.Reply.{silence, word_from}
use Rattle.answers.specs.Judged.{Command, get_of, set_of, unavailable, command, held_then, takes, judge, panel_after, stored, taken, not_available, reply_by}
use Rattle.answers.specs.Played.{turned, reply_from, nack_from, answered_by, answered}
use Rattle.answers.specs.Session.{Ended, by_burst}
use Rattle.answers.proofs.Orders.{OnLine, on_line, taken-allowed}
use Rattle.answers.proofs.Formed.{stored_own, stored-others, answered_formed}
use Rattle.demands.proofs.Cases.{p_cases}
use Rattle.image_read.specs.Read.{in_table}
use Rattle.refusals.specs.declared.Refusal.{Refusal}
use Rattle.image_read.proofs.Sound.{read_formed}
use Rattle.image_read.proofs.Order.{read_any_order, read_by_code, left_out}
use Rattle.image_salvage.proofs.Sound.{table_formed}
use Rattle.std.proofs.lemmas.Result.{IfOk-at_ok}
use Rattle.image_back.proofs.Back.{written_back}
use Rattle.line.specs.Streams.{stream_after}
use Rattle.demands.specs.Demand2.{ByReadings, ReadAsWritten, SetBy, OnlyAddressed, Answer-Is, Answers, Received, empty, add, remove, image, salvage, burst, InRange, ReadsBack, AnyOrder, ByCode, LeftOut, Cases}

pub in_range_lem : InRange
in_range_lem t empty = empty_formed
in_range_lem t (add c i g n k) = added_formed (in_range_lem _ c) i g n k
in_range_lem t (remove c i) = removed_formed (in_range_lem _ c) i
in_range_lem t (image bytes u e) = IfOk-at_ok WellFormed e (read_formed bytes)
in_range_lem t (salvage bytes s e) = table_formed bytes e
in_range_lem t (burst c r) = answered_formed (in_range_lem _ c) r

pub by_readings : ByReadings
unfolding by_burst
by_readings edition w [] = refl
by_readings edition w (b ∷ bs) =
    let o = answered w (reading_of edition b) in
    ap {B = Ended} (λ (e : Ended). record { wall = e.wall; replies = o.reply ∷ e.replies }) (by_readings edition o.wall bs)

pub read_as_written : ReadAsWritten
read_as_written edition i g d short = (packet_verdict edition i g d short, packet_data_lem edition i g d short)

-- one panel and a command: it stays, or values that are allowed are stored
module _ (read : Reading) (i : MonitorId) (g : GroupId) (n : ℕ) (e : read.verdict ≡ Verdict.Intact i g n) (p : Panel) (ok : GoodPanel p) where
  set_by : (c : Command) → command read.part ≡ c → reaches i g p ≡ true
      → (panel_after (judge c p) p ≡ p) ⊎ SetBy read p (panel_after (judge c p) p)
  unfolding judge
  set_by (get_of row) d r = inl refl
  set_by unavailable d r = inl refl
  set_by (set_of row vs) d r = go (takes row vs p) refl
    where
      go : (t : Bool) → takes row vs p ≡ t
          → (panel_after (cond t (taken (stored row (held_then row vs p) p)) not_available) p ≡ p)
          ⊎ SetBy read p (panel_after (cond t (taken (stored row (held_then row vs p) p)) not_available) p)
      go false a = inl refl
      go true a =
          let held = held_then row vs p in
          let allowed = taken-allowed row vs p a in
          let own = stored_own row held p allowed ok.full in
          inr (record {
            id = i;
            group = g;
            count = n;
            row = row;
            values = vs;
            intact = e;
            addressed = r;
            named = d;
            in_range = rw own allowed;
            same = unfold stored in (refl, refl, refl);
            stored = own;
            others = stored-others row held p allowed ok.full;
          })

  turned_by : (turned i g (command read.part) p ≡ p) ⊎ SetBy read p (turned i g (command read.part) p)
  unfolding turned
  turned_by = go (reaches i g p) refl
    where
      go : (t : Bool) → reaches i g p ≡ t
          → let q = cond t (panel_after (judge (command read.part) p) p) p in (q ≡ p) ⊎ SetBy read p q
      go true r = set_by _ refl r
      go false r = inl refl

by_verdict : (v : Verdict) (w : Wall) (read : Reading) (k : ℕ) → read.verdict ≡ v → GoodWall w → k < length w
    → let p = get_or w k blank in let q = get_or (answered_by v w read.part read.seems).wall k blank in (q ≡ p) ⊎ SetBy read p q
by_verdict Verdict.Empty w read k e good h = inl refl
by_verdict (Verdict.Damaged d) w read k e good h = inl refl
by_verdict (Verdict.Intact i g n) w read k e good h =
    let f = turned i g (command read.part) in
    rw (get_or-map f w k blank blank h) (turned_by read i g n e (get_or w k blank) (good_at w good k h))

pub only_addressed : OnlyAddressed
unfolding answered
only_addressed t f read k h = by_verdict read.verdict (panels_of t) read k refl f.good h

-- Answers.
judged-answer : (w : Wall) (i : MonitorId) (k : ℕ) (c : Command) → OnLine c → k < length w → (get_or w k blank).id.0 ≡ i.0
    → Answer-Is w (reply_by i (judge c (get_or w k blank)))
unfolding judge
judged-answer w i k (get_of row) (s, l) h e = inr (inr (i, k, row, h, e, get_found s l, refl))
judged-answer w i k unavailable on h e = inr (inl (i, Control.Nav, refl))
judged-answer w i k (set_of row vs) on h e = go (takes row vs (get_or w k blank))
  where
    go : (t : Bool) → Answer-Is w (reply_by i (cond t (taken (stored row (held_then row vs (get_or w k blank)) (get_or w k blank))) not_available))
    go true = inr (inl (i, Control.Ack, refl))
    go false = inr (inl (i, Control.Nav, refl))

heard-answer : (w : Wall) (i : MonitorId) (c : Command) → OnLine c → (q : Option ℕ) → place_of i w ≡ q → Answer-Is w (reply_from w i c q)
heard-answer w i c on None e = inl refl
heard-answer w i c on (Some k) e = let (h, same) = place_there i w k e in judged-answer w i k c on h same

packet_answer : (w : Wall) (i : MonitorId) (c : Command) → OnLine c → (t : Bool) → Answer-Is w (cond t (reply_from w i c (place_of i w)) silence)
packet_answer w i c on true = heard-answer w i c on (place_of i w) refl
packet_answer w i c on false = inl refl

nack_answer : (w : Wall) (i : MonitorId) (q : Option ℕ) → Answer-Is w (cond (is_some q) (word_from i Control.Nack) silence)
nack_answer w i None = inl refl
nack_answer w i (Some k) = inr (inl (i, Control.Nack, refl))

damaged_answer : (w : Wall) (a : Option MonitorId) → Answer-Is w (nack_from w a)
damaged_answer w None = inl refl
damaged_answer w (Some i) = nack_answer w i (place_of i w)

pub answers : Answers
unfolding answered
answers w read = go read.verdict
  where
    go : (v : Verdict) → Answer-Is w (answered_by v w read.part read.seems).reply
    go Verdict.Empty = inl refl
    go (Verdict.Damaged d) = damaged_answer w read.seems
    go (Verdict.Intact i g n) = packet_answer w i _ (on_line read.part) (is_heard i g)

-- The line.
pub received : Received
received edition w events = stream_after edition [] w events

-- The image.
pub reads_back : ReadsBack
reads_back form t f out n written =
    ap in_table (written_back form (panels_of t) f.good f.few out n written) ∙ ap {B = Result Table Refusal} (λ (u : Table). Ok u) (sym f.held)

pub any_order : AnyOrder
any_order = read_any_order

pub by_code : ByCode
by_code = read_by_code

pub fields-left-out : LeftOut
fields-left-out = left_out

pub ten_cases : Cases
ten_cases = p_cases
