-- Requests one after the other on a line that loses nothing. Assumes nothing.
use Prim.Native.Nat.{ℕ}
use mathlib.Core.Bool.{Bool, true, false, cond}
use mathlib.Core.Path.{◌≡◌, refl, sym, ap, subst, ◌∙◌}
use mathlib.Core.List.{List, [], ◌∷◌, map}
use native.Mathlib.Omega.{arith}
use lib.ListN.{get_or}
use Rattle.std.proofs.lemmas.List.{get_or-map}
use Rattle.std.specs.Prelude.{Option, Some, None}
use Rattle.settings.specs.Settings.{kind_row}
use Rattle.std.proofs.Common.{Option, Some, None}
use Rattle.codes.specs.declared.Code.{Code}
use Rattle.codes.specs.Found.{found_by}
use Rattle.packet.specs.declared.Edition.{Edition}
use Rattle.packet.specs.declared.Verdict.{Verdict}
use Rattle.packet.specs.Answered.{is_heard}
use Rattle.packet.specs.Reading.{Reading, reading_of}
use Rattle.panels.specs.declared.Panel.{Panel}
use Rattle.panels.specs.declared.Table.{Table}
use Rattle.panels.specs.Wall.{Wall, model_of, blank, place_of, panels_of, table_of}
use Rattle.panels.specs.Addressed.{reaches}
use Rattle.panels.specs.WellFormed.{GoodPanel, GoodWall, WellFormed}
use Rattle.panels.proofs.Laws.{panels_of_table, place_there}
use Rattle.panels.proofs.Formed.{good_at}
use Rattle.panels.proofs.Index.{same_place}
use Rattle.answers.specs.Judged.{Command, get_of, set_of, unavailable, command}
use Rattle.answers.specs.Reply.{sent_bytes}
use Rattle.answers.specs.Played.{turned, answered, played}
use Rattle.answers.proofs.Orders.{OnLine, on_line}
use Rattle.answers.proofs.Others.{after, AlikeIn, left_alike}
use Rattle.answers.proofs.Formed.{answered_formed}
use Rattle.requests.specs.declared.Request.{Request}
use Rattle.requests.specs.Request.{request_packet, is_request}
use Rattle.host.specs.Machine.{start, burst, Move, idle, begun, step}
use Rattle.demands.specs.HostAndBox.{EndsWith, StandsAs, AllAnswered, EachOnce}
use Rattle.demands.specs.HostCalls.{sendings_in}
use Rattle.demands.proofs.Each.{changed_by, changed, answered-each, kept-names}
use Rattle.demands.proofs.HostAndBox.{lossless}

-- A burst leaves each panel its profile and its kind,
kept_model : (r : Reading) (p : Panel) → GoodPanel p → model_of (changed r p) ≡ model_of p
unfolding turned
kept_model r p good = go r.verdict
  where
    alike : (c : Command) → OnLine c → AlikeIn kind_row p (after c p)
    alike (get_of row) on = left_alike kind_row (get_of row) on tt p good
    alike (set_of row vs) on = left_alike kind_row (set_of row vs) on (λ s. omega (arith, on.0, s)) p good
    alike unavailable on = left_alike kind_row unavailable on tt p good

    either : (t : Bool) → model_of (cond t (after (command r.part) p) p) ≡ model_of p
    either true = let a = alike (command r.part) (on_line r.part) in rw (a.profile, a.kind)
    either false = refl

    go : (v : Verdict) → model_of (changed_by v r.part p) ≡ model_of p
    go Verdict.Empty = refl
    go (Verdict.Damaged d) = refl
    go (Verdict.Intact i g n) = either (reaches i g p)

-- so that the panel that a request asks stands there as before.
still_stands : (w : Wall) → GoodWall w → (b : Reading) (r : Request) → StandsAs r w (place_of r.id w) → let v = map (changed b) w in StandsAs r v (place_of r.id v)
still_stands w good b r stands =
    subst (StandsAs r (map (changed b) w)) (sym (same_place (changed b) (λ p. kept-names b.verdict b.part p) r.id 0 w)) (go (place_of r.id w) refl stands)
  where
    go : (q : Option ℕ) → place_of r.id w ≡ q → StandsAs r w q → StandsAs r (map (changed b) w) q
    go (Some k) e s =
        let (there, _) = place_there r.id w k e in
        ap model_of (get_or-map (changed b) w k blank blank there) ∙ kept_model b (get_or w k blank) (good_at w good k there) ∙ s
    go None e s = s

still_all : (edition : Edition) (w : Wall) → GoodWall w → (b : Reading) (rs : List Request) → AllAnswered edition w rs → AllAnswered edition (map (changed b) w) rs
still_all edition w good b [] all = tt
still_all edition w good b (r ∷ rs) (request, stands, others) = (request, (λ due. still_stands w good b r (stands due)), still_all edition w good b rs others)

-- One request: it is over with its first packet, and the host is idle.
abbrev Once : Edition → Move → Type 0
Once edition m = (sendings_in m.outcome ≡ 1) × (m.next ≡ idle edition)

ends_once : (edition : Edition) (f : Option Code) (r : Request) (p : Panel) (m : Move) → EndsWith edition f r p 1 m → Once edition m
ends_once edition (Some (Code.Set row)) r p m e = rw e (refl, refl)
ends_once edition (Some (Code.Get row)) r p m e = rw e (refl, refl)
ends_once edition None r p m e = absurd e

module _ (edition : Edition) (t : Table) (f : WellFormed t) (r : Request) (request : is_request edition r ≡ true)
    (stands : is_heard r.id r.group ≡ true → StandsAs r (panels_of t) (place_of r.id (panels_of t))) where
  abbrev answer : List ℕ
  answer = sent_bytes edition (played edition (panels_of t) (request_packet edition r)).reply

  heard_once : is_heard r.id r.group ≡ true → (q : Option ℕ) → place_of r.id (panels_of t) ≡ q → StandsAs r (panels_of t) q
      → Once edition (step (step (idle edition) (start r)).next (burst answer))
  heard_once due (Some k) there told = ends_once edition (found_by r.code) r _ _ (lossless edition t f r k 0 request due there told (omega arith))
  heard_once due None there told = absurd told

  unheard_once : is_heard r.id r.group ≡ false → Once edition (step (idle edition) (start r))
  unfolding step begun
  unheard_once none = rw (request, none) (refl, refl)

  once : Once edition (cond (is_heard r.id r.group) (step (step (idle edition) (start r)).next (burst answer)) (step (idle edition) (start r)))
  once = go (is_heard r.id r.group) refl
    where
      go : (due : Bool) → is_heard r.id r.group ≡ due
          → Once edition (cond due (step (step (idle edition) (start r)).next (burst answer)) (step (idle edition) (start r)))
      go true e = heard_once e (place_of r.id (panels_of t)) refl (stands e)
      go false e = unheard_once e

pub each_once : EachOnce
each_once edition t f [] all = refl
each_once edition t f (r ∷ rs) (request, stands, others) =
    let reading = reading_of edition (request_packet edition r) in
    let wall = (answered (panels_of t) reading).wall in
    let (count, next) = once edition t f r request stands in
    let kept : AllAnswered edition (panels_of (table_of wall)) rs
    = subst (λ (v : Wall). AllAnswered edition v rs) (sym (panels_of_table wall ∙ answered-each (panels_of t) reading)) (still_all edition (panels_of t) f.good reading rs others) in
    let rest = each_once edition (table_of wall) (answered_formed f reading) rs kept in
    rw (count, next) (ap (λ (l : List ℕ). 1 ∷ l) (rw (panels_of_table wall) at rest))
