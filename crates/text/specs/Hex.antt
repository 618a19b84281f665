-- Bytes in upper-case hex, two digits for each. 01, "The play program".
use Rattle.std.specs.Prelude.{ℕ, ◌*◌, ◌/◌, ◌%◌, cond, List, [], ◌∷◌, ◌++◌, length, drop, leb}
use Rattle.hex_digits.specs.Digits.{digit_of}

unfoldable pub hex_of : List ℕ → List ℕ
hex_of [] = []
hex_of (b ∷ bs) = digit_of (b / 16) ∷ digit_of (b % 16) ∷ hex_of bs

-- how many digits are written into an output: all, or none where they do not fit
unfoldable pub hex_count : List ℕ → List ℕ → ℕ
hex_count bytes out = cond (leb (2 * length bytes) (length out)) (2 * length bytes) 0

-- the output after it; past the digits it is as before
unfoldable pub hex_over : List ℕ → List ℕ → List ℕ
hex_over bytes out = cond (leb (2 * length bytes) (length out)) (hex_of bytes ++ drop (2 * length bytes) out) out
