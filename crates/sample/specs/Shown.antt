-- Bytes as the programs print them: in upper-case hex, or a dash where there are none. 01, "The play program".
use Rattle.std.specs.Prelude.{ℕ, cond, ◌==◌, List, [], ◌∷◌, leb, length, drop, codes}
use Rattle.text.specs.Hex.{hex_of, hex_count, hex_over}

abbrev pub shown_of : List ℕ → List ℕ
shown_of bs = cond (length bs == 0) (codes "-") (hex_of bs)

-- how many characters are laid at the front of an output: all, or none where they do not fit; 45 is the dash
unfoldable pub shown_count : List ℕ → List ℕ → ℕ
shown_count [] out = cond (leb 1 (length out)) 1 0
shown_count (b ∷ bs) out = hex_count (b ∷ bs) out

-- the output after it; past them it is as before
unfoldable pub shown_over : List ℕ → List ℕ → List ℕ
shown_over [] out = cond (leb 1 (length out)) (45 ∷ drop 1 out) out
shown_over (b ∷ bs) out = hex_over (b ∷ bs) out
