-- Lists made by a rule, lists one behind the other, bytes laid over others, and bytes compared.
use Rattle.std.specs.Prelude.{ℕ, zero, suc, ◌+◌, Bool, true, false, ◌&&◌, eqb, length, take, drop}
use mathlib.Core.List.{List, [], ◌∷◌, ◌++◌, flatten}

-- f at 0, 1, .., n - 1
abbrev pub each : {A : Type 0} → (ℕ → A) → ℕ → List A
each f zero = []
each f (suc n) = f 0 ∷ each (λ k. f (suc k)) n

-- where list k of some lists begins, once they stand one behind the other
abbrev pub start_of : {A : Type 0} → List (List A) → ℕ → ℕ
start_of ls k = length (flatten (take k ls))

-- a list with some bytes laid over it from place `at` on
unfoldable pub laid_at : ℕ → List ℕ → List ℕ → List ℕ
laid_at at bytes l = take at l ++ bytes ++ drop (at + length bytes) l

-- and over its front
unfoldable pub laid_over : List ℕ → List ℕ → List ℕ
laid_over bytes l = bytes ++ drop (length bytes) l

-- the same bytes
unfoldable pub same : List ℕ → List ℕ → Bool
same [] [] = true
same [] (y ∷ ys) = false
same (x ∷ xs) [] = false
same (x ∷ xs) (y ∷ ys) = eqb x y && same xs ys
