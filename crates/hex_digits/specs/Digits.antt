-- Digits as bytes of text, in ASCII. 01, "The play program": hex is in upper case.
use Rattle.std.specs.Prelude.{ℕ, ◌+◌, cond, ltb}

-- the ASCII code of a digit below 16: 0 to 9, then A to F
abbrev pub digit_of : ℕ → ℕ
digit_of d = cond (ltb d 10) (48 + d) (55 + d)
