-- A tint and its byte: each is the other's way back, and the bits that the code computes with are the byte's. Assumes nothing.
use mathlib.Core.Path.{◌≡◌, refl, sym, ap, ◌∙◌}
use mathlib.Core.Bool.{true, false, false≢true}
use Prim.Native.Nat.{ℕ, suc, ◌-◌, ◌<◌}
use native.Mathlib.Omega.{arith}
use borrow.Author.Tests.{lt-ltb, le-ltb}
use lib.IntN.{ℤ, pos, negsuc, nat_abs}
use lib.Dec.{T}
use lib.Signed.{lt_z, non_neg}
use mir.Syntax.{w8}
use mir.Val.{Fits, SFits, to_z, of_z}
use mir.ValLaws.{to_z-of_z, to_z_pos}
use Rattle.profiles.specs.Video.{tint_of, tint_byte}
use Rattle.lists.proofs.Each.{alike}

-- the bits read as signed
pub tint_bits : {b : ℕ} → b < 256 → to_z w8 b ≡ tint_of b
unfolding tint_of
tint_bits h = alike (to_z w8) tint_of 256 refl h

pub byte_back : {b : ℕ} → b < 256 → tint_byte (tint_of b) ≡ b
unfolding tint_of tint_byte
byte_back h = alike (λ b. tint_byte (tint_of b)) (λ b. b) 256 refl h

pub tint_back : (t : ℤ) → SFits w8 t → tint_of (tint_byte t) ≡ t
unfolding tint_of tint_byte
tint_back (pos n) h = let small = h.sfits in rw (lt-ltb n 128 small)
tint_back (negsuc n) h =
    let small = h.sfits in
    let back : 255 - (255 - n) ≡ n = omega arith in
    rw (le-ltb (255 - n) 128 (omega arith), back)

-- below 0 the complement is not, and its own complement is the byte
pub record Below (t : ℤ) : Type 0 where
  pub cast : T (non_neg (to_z w8 (255 - of_z w8 t))) × Fits w8 (nat_abs (to_z w8 (255 - of_z w8 t)))
  pub byte : 255 - nat_abs (to_z w8 (255 - of_z w8 t)) ≡ tint_byte t

pub below : (t : ℤ) → SFits w8 t → lt_z (to_z w8 (of_z w8 t)) (pos 0) ≡ true → Below t
unfolding tint_byte
below (pos n) h l = absurd (false≢true (sym (ap (λ (z : ℤ). lt_z z (pos 0)) (to_z-of_z w8 (pos n) h) ∙ le-ltb n 0 (omega arith)) ∙ l))
below (negsuc n) h l =
    let small = h.sfits in
    let same : 255 - (256 - suc n) ≡ n = omega arith in
    let bits : to_z w8 (255 - (256 - suc n)) ≡ pos n = ap (to_z w8) same ∙ to_z_pos w8 n small in
    record { cast = rw bits (tt, record { fits = omega arith }); byte = rw bits }

-- and another tint is its byte
pub record NotBelow (t : ℤ) : Type 0 where
  pub cast : T (non_neg (to_z w8 (of_z w8 t))) × Fits w8 (nat_abs (to_z w8 (of_z w8 t)))
  pub byte : nat_abs (to_z w8 (of_z w8 t)) ≡ tint_byte t

pub not_below : (t : ℤ) → SFits w8 t → lt_z (to_z w8 (of_z w8 t)) (pos 0) ≡ false → NotBelow t
unfolding tint_byte
not_below (pos n) h l =
    let small = h.sfits in
    let bits = to_z-of_z w8 (pos n) h in
    record { cast = rw bits (tt, record { fits = omega arith }); byte = rw bits }
not_below (negsuc n) h l = absurd (false≢true (sym l ∙ ap (λ (z : ℤ). lt_z z (pos 0)) (to_z-of_z w8 (negsuc n) h)))
