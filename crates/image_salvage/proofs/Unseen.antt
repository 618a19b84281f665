-- How many rows are not seen yet. Assumes nothing.
use mathlib.Core.Path.{◌≡◌, sym}
use mathlib.Core.Bool.{Bool, true, false, cond, false≢true}
use mathlib.Core.List.{List, [], ◌∷◌}
use Prim.Native.Nat.{ℕ, zero, suc, ◌+◌, ◌<◌}
use native.Mathlib.Nat.{not-suc-le-zero, le_of_suc-le-suc}
use native.Mathlib.Omega.{arith}
use lib.ListN.{length, get_or, set}

unfoldable pub unseen : List Bool → ℕ
unseen [] = 0
unseen (s ∷ seen) = cond s 0 1 + unseen seen

-- one less where one more is seen
pub one_less : (seen : List Bool) (row : ℕ) → row < length seen → get_or seen row false ≡ false → unseen (set seen row true) + 1 ≡ unseen seen
unfolding unseen
one_less [] row h e = absurd (not-suc-le-zero h)
one_less (true ∷ seen) zero h e = absurd (false≢true (sym e))
one_less (false ∷ seen) zero h e = omega arith
one_less (s ∷ seen) (suc row) h e = let ih = one_less seen row (le_of_suc-le-suc h) e in omega arith
