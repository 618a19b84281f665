use mathlib.Core.Path.{◌≡◌, ap, ◌∙◌}
use Prim.Native.Nat.{◌-◌}
use native.Mathlib.Omega.{arith}
use mir.Syntax.{w8}
use mir.Val.{to_z}
use Rattle.profiles.proofs.Tints.{tint_bits}
use Rattle.profiles.proofs.tint_of.Goals as goal

pub returns-then-byte-lt128 : goal.returns-then-byte-lt128
returns-then-byte-lt128 c = tint_bits c.ranges.byte.fits

pub returns : goal.returns
returns c =
    let small = c.ranges.byte.fits in
    let same : 255 - (255 - c.args.byte) ≡ c.args.byte = omega arith in
    ap (to_z w8) same ∙ tint_bits small
