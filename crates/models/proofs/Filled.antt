-- A set of tiling whose wall is 0 gets another; every other set is as it was. Assumes nothing.
use mathlib.Core.Path.{◌≡◌, refl, sym, ◌∙◌}
use mathlib.Core.Bool.{Bool, true, false, cond, and-false, ◌&&◌, ◌||◌}
use mathlib.Core.List.{List, [], ◌∷◌}
use Prim.Native.Nat.{ℕ, ◌≤◌}
use native.Mathlib.Omega.{arith}
use borrow.Author.Tests.{ne_eqb, eqb-true, le-leb}
use lib.Dec.{eqb, leb}
use lib.ListN.{length, get_or, set, length-set}
use lib.Seq.{set_out, set-set, set-get_or}
use Rattle.lists.proofs.Both.{both}
use Rattle.tiling.specs.declared.Kind.{Kind}
use Rattle.tiling.specs.Kinds.{largest, in_wall}
use Rattle.tiling.proofs.Walls.{in_bounds}
use Rattle.tiling.proofs.Sizes.{largest_few}
use Rattle.settings.specs.declared.Profile.{Profile}
use Rattle.settings.specs.Settings.{settings, within, all_allowed, in_ranges, tiling_row}
use Rattle.models.specs.Models.{filled}

pub filled-other : (row wall : ℕ) (vs : List ℕ) → (row ≡ tiling_row → ⊥) → filled row wall vs ≡ vs
unfolding filled
filled-other row wall vs ne = rw (ne_eqb row tiling_row ne)

pub filled_there : (row wall : ℕ) (vs : List ℕ) → (get_or vs 3 0 ≡ 0 → ⊥) → filled row wall vs ≡ vs
unfolding filled
filled_there row wall vs ne = rw (ne_eqb (get_or vs 3 0) 0 ne, and-false (eqb row tiling_row))

pub filled_short : (row wall : ℕ) (vs : List ℕ) → length vs ≤ 3 → filled row wall vs ≡ vs
unfolding filled
filled_short row wall vs h = go (eqb row tiling_row && eqb (get_or vs 3 0) 0)
  where
    go : (t : Bool) → cond t (set vs 3 wall) vs ≡ vs
    go true = set_out vs 3 wall h
    go false = refl

pub length-filled : (row wall : ℕ) (vs : List ℕ) → length (filled row wall vs) ≡ length vs
unfolding filled
length-filled row wall vs = go (eqb row tiling_row && eqb (get_or vs 3 0) 0)
  where
    go : (t : Bool) → length (cond t (set vs 3 wall) vs) ≡ length vs
    go true = length-set vs 3 wall
    go false = refl

-- Filled again, with the wall that then stands there, it is the same.
pub filled-again : (row wall : ℕ) (vs : List ℕ) → filled row (get_or (filled row wall vs) 3 0) vs ≡ filled row wall vs
unfolding filled
filled-again row wall vs = go (eqb row tiling_row && eqb (get_or vs 3 0) 0)
  where
    go : (t : Bool) → cond t (set vs 3 (get_or (cond t (set vs 3 wall) vs) 3 0)) vs ≡ cond t (set vs 3 wall) vs
    go true = sym (set-set vs 3 wall _) ∙ set-get_or (set vs 3 wall) 3 0
    go false = refl

wall-few : (kind : Kind) (position wall : ℕ) → in_wall kind position wall ≡ true → wall ≤ 255
unfolding in_wall
wall-few kind position wall e = omega (arith, in_bounds (largest kind) wall (both _ _ e).0, largest_few kind)

-- Every byte is in the range of a wall, so a tiling that stands in a wall is in its ranges as it was sent, or not at all.
pub ranges_filled : (profile : Profile) (kind : Kind) (wall : ℕ) (vs : List ℕ)
    → let held = filled tiling_row wall vs in
    let stands = in_wall kind (get_or held 2 0) (get_or held 3 0) in
    (in_ranges profile tiling_row held && stands) ≡ (in_ranges profile tiling_row vs && stands)
unfolding filled settings within all_allowed
ranges_filled profile kind wall vs = go vs (eqb (get_or vs 3 0) 0) refl
  where
    within-byte : (w : ℕ) → w ≤ 255 → (leb 0 w && leb w 255 || false) ≡ true
    within-byte w h = rw (le-leb 0 w (omega arith), le-leb w 255 h)

    go : (vs : List ℕ) (t : Bool) → eqb (get_or vs 3 0) 0 ≡ t
        → let held = cond t (set vs 3 wall) vs in
        let stands = in_wall kind (get_or held 2 0) (get_or held 3 0) in
        (in_ranges profile tiling_row held && stands) ≡ (in_ranges profile tiling_row vs && stands)
    go vs false e = refl
    go [] true e = refl
    go (a ∷ []) true e = refl
    go (a ∷ b ∷ []) true e = refl
    go (a ∷ b ∷ c ∷ []) true e = refl
    go (a ∷ b ∷ c ∷ x ∷ rest) true e = by (in_wall kind c wall) refl
      where
        by : (t : Bool) → in_wall kind c wall ≡ t
            → (in_ranges profile tiling_row (a ∷ b ∷ c ∷ wall ∷ rest) && t) ≡ (in_ranges profile tiling_row (a ∷ b ∷ c ∷ x ∷ rest) && t)
        by true s =
            let zero : x ≡ 0 = eqb-true x 0 e in
            rw (within-byte wall (wall-few kind c wall s), within-byte x (omega arith))
        by false s = and-false (in_ranges profile tiling_row (a ∷ b ∷ c ∷ wall ∷ rest)) ∙ sym (and-false (in_ranges profile tiling_row (a ∷ b ∷ c ∷ x ∷ rest)))
