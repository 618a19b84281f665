-- Tables stay well-formed. Assumes nothing.
use mathlib.Core.Path.{◌≡◌, refl, sym, ap, subst, ◌∙◌}
use mathlib.Core.Bool.{Bool, true, false, cond}
use mathlib.Core.List.{[], ◌∷◌, ◌++◌, map}
use Prim.Native.Nat.{ℕ, zero, suc, ◌≤◌, ◌<◌}
use native.Mathlib.Nat.{le_of_suc-le-suc, not-suc-le-zero}
use native.Mathlib.Omega.{arith}
use borrow.Author.Tests.{eqb-false}
use lib.Dec.{eqb}
use lib.ListN.{length, get_or}
use Rattle.std.specs.Prelude.{Some, None}
use Rattle.settings.specs.declared.Profile.{Profile}
use Rattle.tiling.specs.declared.Kind.{Kind}
use Rattle.tiling.specs.Kinds.{kind_number}
use Rattle.settings.specs.Settings.{fresh_values, kind_row}
use Rattle.models.specs.Models.{model_in}
use Rattle.models.proofs.Laws.{kind_allowed}
use Rattle.packet.specs.declared.MonitorId.{MonitorId}
use Rattle.packet.specs.declared.GroupId.{GroupId}
use Rattle.panels.specs.declared.Panel.{Panel}
use Rattle.panels.specs.Wall.{Wall, blank, fresh_panel, table_of, place_from, most_panels}
use Rattle.panels.specs.WellFormed.{GoodPanel, Absent, GoodWall, WellFormed}
use Rattle.panels.proofs.Laws.{panels_of_table}
use Rattle.panels.proofs.Values.{fresh_in_range, with_in_range}

pub formed : (w : Wall) → length w ≤ most_panels → GoodWall w → WellFormed (table_of w)
formed w few good =
    let e = sym (panels_of_table w) in
    record { held = ap table_of e; few = subst (λ (v : Wall). length v ≤ most_panels) e few; good = subst GoodWall e good }

-- nothing is found exactly where the ID is absent
pub nowhere_absent : (i : MonitorId) (k : ℕ) (w : Wall) → place_from i k w ≡ None → Absent i w
unfolding place_from
nowhere_absent i k [] e = tt
nowhere_absent i k (p ∷ w) e = go (eqb p.id.0 i.0) refl e (nowhere_absent i (suc k) w)
  where
    go : (t : Bool) → eqb p.id.0 i.0 ≡ t → cond t (Some k) (place_from i (suc k) w) ≡ None
        → (place_from i (suc k) w ≡ None → Absent i w) → Absent i (p ∷ w)
    go true s n ih = let z : ◌≡◌ {A = ℕ} 0 1 = cc in absurd (omega arith)
    go false s n ih = (eqb-false _ _ s, ih n)

pub absent_snoc : (i : MonitorId) (w : Wall) (p : Panel) → Absent i w → (p.id.0 ≡ i.0 → ⊥) → Absent i (w ++ p ∷ [])
absent_snoc i [] p a n = (n, tt)
absent_snoc i (q ∷ w) p (m, a) n = (m, absent_snoc i w p a n)

pub good_snoc : (w : Wall) (p : Panel) → GoodWall w → GoodPanel p → Absent p.id w → GoodWall (w ++ p ∷ [])
good_snoc [] p good g a = (g, tt, tt)
good_snoc (q ∷ w) p (gq, aq, good) g (n, a) = (gq, absent_snoc q.id w p aq (λ e. n (sym e)), good_snoc w p good g a)

-- a change of each panel for itself that keeps its ID and its goodness
module _ (f : Panel → Panel) (same : (p : Panel) → (f p).id ≡ p.id) (keeps : (p : Panel) → GoodPanel p → GoodPanel (f p)) where
  absent_map : (i : MonitorId) (w : Wall) → Absent i w → Absent i (map f w)
  absent_map i [] a = tt
  absent_map i (p ∷ w) (n, a) = ((λ e. n (ap (λ (j : MonitorId). j.0) (sym (same p)) ∙ e)), absent_map i w a)

  pub good-map : (w : Wall) → GoodWall w → GoodWall (map f w)
  good-map [] good = tt
  good-map (p ∷ w) (g, a, good) = (keeps p g, absent_map (f p).id w (subst (λ (j : MonitorId). Absent j w) (sym (same p)) a), good-map w good)

-- each panel of a good wall is good
pub good_at : (w : Wall) → GoodWall w → (k : ℕ) → k < length w → GoodPanel (get_or w k blank)
good_at [] good k h = absurd (not-suc-le-zero h)
good_at (p ∷ w) (g, a, good) zero h = g
good_at (p ∷ w) (g, a, good) (suc k) h = good_at w good k (le_of_suc-le-suc h)

-- an absent ID is nowhere, and two places of a good wall have two IDs
absent_at : (i : MonitorId) (w : Wall) (j : ℕ) → Absent i w → j < length w → (get_or w j blank).id.0 ≡ i.0 → ⊥
absent_at i [] j a h = absurd (not-suc-le-zero h)
absent_at i (p ∷ w) zero (n, a) h = n
absent_at i (p ∷ w) (suc j) (n, a) h = absent_at i w j a (le_of_suc-le-suc h)

pub apart : (w : Wall) (j k : ℕ) → GoodWall w → j < length w → k < length w → (get_or w j blank).id.0 ≡ (get_or w k blank).id.0 → j ≡ k
apart [] j k good h m e = absurd (not-suc-le-zero h)
apart (p ∷ w) zero zero good h m e = refl
apart (p ∷ w) zero (suc k) (g, a, good) h m e = absurd (absent_at p.id w k a (le_of_suc-le-suc m) (sym e))
apart (p ∷ w) (suc j) zero (g, a, good) h m e = absurd (absent_at p.id w j a (le_of_suc-le-suc h) e)
apart (p ∷ w) (suc j) (suc k) (g, a, good) h m e = ap suc (apart w j k good (le_of_suc-le-suc h) (le_of_suc-le-suc m) e)

pub fresh-good : (i : MonitorId) (g : GroupId) (profile : Profile) (kind : Kind) → (i.0 ≡ 0 → ⊥) → (g.0 ≡ 0 → ⊥) → GoodPanel (fresh_panel i g profile kind)
fresh-good i g profile kind named grouped =
    let fresh = model_in profile (fresh_values profile) in
    let i = with_in_range (fresh_in_range profile) kind_row (kind_number kind ∷ []) (kind_allowed fresh kind) (λ _. refl) in
    record { named = named; grouped = grouped; full = i.full; in_range = i.rows }

pub empty_formed : WellFormed (table_of [])
empty_formed = formed [] (omega arith) tt
