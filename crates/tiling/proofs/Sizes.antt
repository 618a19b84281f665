-- What the arithmetic says of the two kinds. Assumes nothing.
use mathlib.Core.Path.{◌≡◌}
use mathlib.Core.Bool.{true}
use Prim.Native.Nat.{ℕ, ◌*◌, ◌≤◌, ◌<◌}
use native.Mathlib.Omega.{arith}
use native.Mathlib.Nat.{mul_comm}
use Rattle.tiling.specs.declared.Kind.{Kind}
use Rattle.tiling.specs.Walls.{byte_of, height_of, width_of, up_to}
use Rattle.tiling.specs.Kinds.{widest, highest, largest}
use Rattle.tiling.proofs.Walls.{in_bounds, byte_fits, panels_fit}

pub some_wide : (kind : Kind) → 0 < widest kind
some_wide Kind.FiveByFive = omega arith
some_wide Kind.FifteenByTen = omega arith

pub largest_few : (kind : Kind) → largest kind ≤ 150
largest_few Kind.FiveByFive = omega arith
largest_few Kind.FifteenByTen = omega arith

-- a wall's byte, and the number of its panels, are bytes
pub byte_few : (kind : Kind) (v h : ℕ) → up_to (highest kind) v ≡ true → up_to (widest kind) h ≡ true → byte_of (widest kind) v h ≤ 150
byte_few kind v h tall wide =
    let (v1, vn) = in_bounds _ _ tall in
    let (h1, hn) = in_bounds _ _ wide in
    omega (arith, in_bounds _ _ (byte_fits (widest kind) (highest kind) v h v1 vn h1 hn), largest_few kind)

pub panels_few : (kind : Kind) (byte : ℕ) → up_to (largest kind) byte ≡ true → height_of (widest kind) byte * width_of (widest kind) byte ≤ 150
panels_few kind byte fits =
    omega (arith, panels_fit (widest kind) (highest kind) byte fits, largest_few kind, mul_comm (widest kind) (highest kind))
