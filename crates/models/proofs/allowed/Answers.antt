use mathlib.Core.Path.{◌≡◌, sym, ap, ◌∙◌}
use mathlib.Core.Bool.{Bool, true}
use mathlib.Core.List.{List}
use Prim.Native.Nat.{ℕ}
use native.Mathlib.Omega.{arith}
use lib.ListN.{length}
use Rattle.settings.specs.declared.Profile.{Profile}
use Rattle.settings.specs.Settings.{settings, in_ranges, byte_count, tiling_row}
use Rattle.settings.proofs.Laws.{ranges_many, ne_same}
use Rattle.models.proofs.allowed.Goals as goal

-- A tiling in its ranges has four values. Assumes nothing.
four : (profile : Profile) {row : ℕ} {allowed : Bool} (vs : List ℕ) → row ≡ tiling_row → allowed ≡ in_ranges profile row vs → allowed ≡ true → length vs ≡ 4
unfolding settings
four profile {row} vs tiling e all = ranges_many profile row vs (sym e ∙ all) ∙ ap byte_count tiling

pub bounds-values-2 : goal.bounds-values-2
bounds-values-2 c = omega (arith, four _ _ (ne_same c.ne.ensures c.if-ne.false) c.in_ranges-2.ensures c.if-not-in_ranges.false)

pub bounds-values-3 : goal.bounds-values-3
bounds-values-3 c = omega (arith, four _ _ (ne_same c.ne.ensures c.if-ne.false) c.in_ranges-2.ensures c.if-not-in_ranges.false)
