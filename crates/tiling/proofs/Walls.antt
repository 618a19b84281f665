-- A byte, and the height and width that it says, are each the other's way back, for any widest H and highest V. Assumes nothing.
use mathlib.Core.Path.{◌≡◌}
use mathlib.Core.Bool.{true}
use Prim.Native.Nat.{ℕ, zero, suc, ◌+◌, ◌-◌, ◌*◌, ◌/◌, ◌≤◌, ◌<◌}
use native.Mathlib.Nat.{mod-lt, div-add-mod', div-lt_iff_lt-mul, mul_comm, mul-le-mul}
use native.Mathlib.Omega.{arith}
use borrow.Author.Tests.{leb-true, le-leb}
use lib.Arith.{digits_div, digits_mod, digits_lt}
use Rattle.lists.proofs.Both.{both}
use Rattle.tiling.specs.Walls.{byte_of, height_of, width_of, up_to}

pub up_to_lem : {last n : ℕ} → 1 ≤ n → n ≤ last → up_to last n ≡ true
unfolding up_to
up_to_lem h k = rw (le-leb _ _ h, le-leb _ _ k)

pub in_bounds : (last n : ℕ) → up_to last n ≡ true → (1 ≤ n) × (n ≤ last)
unfolding up_to
in_bounds last n e = let (low, high) = both _ _ e in (leb-true _ _ low, leb-true _ _ high)

-- what is counted before the wall's last panel: q whole rows and r more
module _ (widest highest v h : ℕ) (v1 : 1 ≤ v) (vn : v ≤ highest) (h1 : 1 ≤ h) (hn : h ≤ widest) where
  before : byte_of widest v h - 1 ≡ (v - 1) * widest + (h - 1)
  before = omega arith

  short : h - 1 < widest
  short = omega arith

  pub height_back : height_of widest (byte_of widest v h) ≡ v
  height_back = rw (before, digits_div (v - 1) short) (omega arith)

  pub width_back : width_of widest (byte_of widest v h) ≡ h
  width_back = rw (before, digits_mod (v - 1) short) (omega arith)

  pub byte_fits : up_to (widest * highest) (byte_of widest v h) ≡ true
  byte_fits =
      let low : v - 1 < highest = omega arith in
      up_to_lem (omega arith) (omega (arith, digits_lt low short, mul_comm widest highest))

-- every byte up to the last is a wall's
module _ (widest highest byte : ℕ) (fits : up_to (widest * highest) byte ≡ true) where
  some : 0 < widest
  some = go widest (in_bounds _ _ fits).1
    where
      go : (w : ℕ) → byte ≤ w * highest → 0 < w
      go zero b = absurd (omega (arith, (in_bounds _ _ fits).0, mul_comm zero highest))
      go (suc w) b = omega arith

  pub byte_back : byte_of widest (height_of widest byte) (width_of widest byte) ≡ byte
  byte_back =
      let q : (byte - 1) / widest + 1 - 1 ≡ (byte - 1) / widest = omega arith in
      rw q (omega (arith, div-add-mod' (byte - 1) widest, (in_bounds _ _ fits).0))

  pub height_fits : up_to highest (height_of widest byte) ≡ true
  height_fits =
      let (b1, bn) = in_bounds _ _ fits in
      let low : byte - 1 < highest * widest = omega (arith, mul_comm widest highest) in
      up_to_lem (omega arith) (omega (arith, (div-lt_iff_lt-mul some).1 low))

  pub width_fits : up_to widest (width_of widest byte) ≡ true
  width_fits = up_to_lem (omega arith) (omega (arith, mod-lt (byte - 1) some))

  pub panels_fit : height_of widest byte * width_of widest byte ≤ highest * widest
  panels_fit = mul-le-mul (in_bounds _ _ height_fits).1 (in_bounds _ _ width_fits).1
