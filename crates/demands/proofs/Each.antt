-- What bursts make of a wall, panel by panel. Assumes nothing.
use Prim.Native.Nat.{ℕ}
use mathlib.Core.Bool.{false}
use mathlib.Core.Path.{◌≡◌, refl, sym}
use mathlib.Core.List.{List, [], ◌∷◌, map, map-map, map-id}
use Rattle.packet.specs.declared.Edition.{Edition}
use Rattle.packet.specs.declared.MonitorId.{MonitorId}
use Rattle.packet.specs.declared.GroupId.{GroupId}
use Rattle.packet.specs.declared.Verdict.{Verdict}
use Rattle.packet.specs.Reading.{Reading, reading_of}
use Rattle.panels.specs.declared.Panel.{Panel}
use Rattle.panels.specs.Wall.{Wall}
use Rattle.panels.specs.Addressed.{reaches}
use Rattle.answers.specs.Judged.{command, stored}
use Rattle.answers.specs.Played.{turned, answered_by, answered}
use Rattle.answers.specs.Session.{by_burst, session}
use Rattle.answers.proofs.Formed.{turned-keeps}
use Rattle.answers.proofs.Turned.{stays}
use Rattle.demands.proofs.Demand2.{by_readings}
use Rattle.demands.specs.Apart.{addressed_by}
use Rattle.std.proofs.Common.{arith}
use Rattle.std.proofs.lemmas.Grind.{common_steps}

-- what a burst with this verdict and data makes of a panel, and bursts one after the other
abbrev pub changed_by : Verdict → List ℕ → Panel → Panel
changed_by Verdict.Empty d p = p
changed_by (Verdict.Damaged damage) d p = p
changed_by (Verdict.Intact i g n) d p = turned i g (command d) p

abbrev pub changed : Reading → Panel → Panel
changed r = changed_by r.verdict r.part

abbrev pub changed_by_all : List Reading → Panel → Panel
changed_by_all [] p = p
changed_by_all (r ∷ rs) p = changed_by_all rs (changed r p)

pub answered-each : (w : Wall) (r : Reading) → (answered w r).wall ≡ map (changed r) w
unfolding answered
answered-each w r = go r.verdict
  where
    go : (v : Verdict) → (answered_by v w r.part r.seems).wall ≡ map (changed_by v r.part) w
    go Verdict.Empty = sym (map-id w)
    go (Verdict.Damaged d) = sym (map-id w)
    go (Verdict.Intact i g n) = refl

pub all_each : (w : Wall) (rs : List Reading) → (by_burst answered w rs).wall ≡ map (changed_by_all rs) w
unfolding by_burst
all_each w [] = sym (map-id w)
all_each w (r ∷ rs) = grind (arith, common_steps, all_each (answered w r).wall rs, answered-each, map-map)

pub session-each : (edition : Edition) (w : Wall) (bs : List (List ℕ)) → (session edition w bs).wall ≡ map (changed_by_all (map (reading_of edition) bs)) w
session-each edition w bs = grind (arith, common_steps, by_readings, all_each, reading_of)

-- a panel that is not addressed stays, and whom another burst addresses stays so too
pub not_addressed : (v : Verdict) (d : List ℕ) (p : Panel) → addressed_by v p ≡ false → changed_by v d p ≡ p
not_addressed Verdict.Empty d p e = refl
not_addressed (Verdict.Damaged damage) d p e = refl
not_addressed (Verdict.Intact i g n) d p e = stays i g _ p e

same_reached : (i : MonitorId) (g : GroupId) (v : Verdict) (d : List ℕ) (p : Panel) → reaches i g (changed_by v d p) ≡ reaches i g p
unfolding stored reaches
same_reached i g Verdict.Empty d p = refl
same_reached i g (Verdict.Damaged damage) d p = refl
same_reached i g (Verdict.Intact j h n) d p = turned-keeps (reaches i g) p (λ row vs. refl) j h _

pub same-addressed : (v : Verdict) (c : Reading) (p : Panel) → addressed_by v (changed c p) ≡ addressed_by v p
same-addressed Verdict.Empty c p = refl
same-addressed (Verdict.Damaged d) c p = refl
same-addressed (Verdict.Intact i g n) c p = same_reached i g c.verdict c.part p

-- a panel keeps its names
pub kept-names : (v : Verdict) (d : List ℕ) (p : Panel) → ((changed_by v d p).id ≡ p.id) × ((changed_by v d p).group ≡ p.group)
unfolding stored
kept-names Verdict.Empty d p = (refl, refl)
kept-names (Verdict.Damaged damage) d p = (refl, refl)
kept-names (Verdict.Intact i g n) d p =
    (turned-keeps (λ (q : Panel). q.id) p (λ row vs. refl) i g _, turned-keeps (λ (q : Panel). q.group) p (λ row vs. refl) i g _)
