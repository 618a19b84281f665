-- The digits of many bytes. Assumes nothing.
use mathlib.Core.Path.{◌≡◌, refl}
use mathlib.Core.Bool.{Bool, true, false, cond}
use mathlib.Core.List.{List, [], ◌∷◌, ◌++◌}
use Prim.Native.Nat.{ℕ, zero, suc, ◌+◌, ◌*◌, ◌≤◌, ◌<◌}
use native.Mathlib.Omega.{arith}
use borrow.Author.Tests.{le-leb}
use lib.Dec.{ltb}
use lib.ListN.{length, get_or, take}
use lib.Seq.{take_at}
use Rattle.hex_digits.specs.Digits.{digit_of}
use Rattle.text.specs.Hex.{hex_of, hex_count, hex_over}

pub hex-append : (xs ys : List ℕ) → hex_of (xs ++ ys) ≡ hex_of xs ++ hex_of ys
unfolding hex_of
hex-append [] ys = refl
hex-append (x ∷ xs) ys = rw (hex-append xs ys)

pub length-hex : (bs : List ℕ) → length (hex_of bs) ≡ 2 * length bs
unfolding hex_of
length-hex [] = refl
length-hex (b ∷ bs) = let e = length-hex bs in omega arith

-- where they fit they are the front of the output
pub front_hex : (bytes out : List ℕ) → 2 * length bytes ≤ length out → take (hex_count bytes out) (hex_over bytes out) ≡ hex_of bytes
unfolding hex_count hex_over
front_hex bytes out h = rw (le-leb (2 * length bytes) (length out) h) (take_at (hex_of bytes) _ (2 * length bytes) (length-hex bytes))

-- and they are text
small : (d : ℕ) → d < 16 → digit_of d < 128
small d h = go (ltb d 10)
  where
    go : (t : Bool) → cond t (48 + d) (55 + d) < 128
    go true = omega arith
    go false = omega arith

pub ascii-hex : (bs : List ℕ) → ((i : ℕ) → get_or bs i 0 < 256) → (i : ℕ) → get_or (hex_of bs) i 0 < 128
unfolding hex_of
ascii-hex [] h i = omega arith
ascii-hex (b ∷ bs) h zero = let byte = h 0 in small _ (omega arith)
ascii-hex (b ∷ bs) h (suc zero) = let byte = h 0 in small _ (omega arith)
ascii-hex (b ∷ bs) h (suc (suc i)) = ascii-hex bs (λ k. h (suc k)) i
