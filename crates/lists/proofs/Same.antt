-- Bytes compared. Assumes nothing.
use mathlib.Core.Path.{◌≡◌, refl, ap₂}
use mathlib.Core.Bool.{true, false, false≢true, and-true, and-false}
use mathlib.Core.List.{List, [], ◌∷◌}
use Prim.Native.Nat.{ℕ, ◌<◌}
use native.Mathlib.Nat.{not-suc-le-zero}
use borrow.Author.Tests.{eqb-true, eq-eqb}
use lib.Dec.{eqb}
use lib.ListN.{length, get_or, take}
use lib.Pointwise.{pointwise}
use Rattle.lists.specs.Lists.{same}
use Rattle.lists.proofs.Both.{both}
use Rattle.std.proofs.Common.{arith}
use Rattle.std.proofs.lemmas.Grind.{common_steps}

pub same_is : (a b : List ℕ) → same a b ≡ true → a ≡ b
unfolding same
same_is [] [] e = refl
same_is [] (y ∷ b) e = absurd (false≢true e)
same_is (x ∷ a) [] e = absurd (false≢true e)
same_is (x ∷ a) (y ∷ b) e = let (h, t) = both (eqb x y) _ e in ap₂ (λ (z : ℕ) (l : List ℕ). z ∷ l) (eqb-true x y h) (same_is a b t)

pub same_self : (a : List ℕ) → same a a ≡ true
unfolding same
same_self [] = refl
same_self (x ∷ a) = rw (eq-eqb x x refl) (same_self a)

-- what `==` says of two slices of bytes
pub eq_same : (a b : List ℕ) → pointwise eqb a b ≡ same a b
unfolding same
eq_same [] [] = refl
eq_same [] (y ∷ b) = refl
eq_same (x ∷ a) [] = refl
eq_same (x ∷ a) (y ∷ b) = rw (eq_same a b)

pub not_same : (a b : List ℕ) → (a ≡ b → ⊥) → same a b ≡ false
not_same a b ne = grind (arith, common_steps, same_is)

-- with one byte: the first of them, or another number of bytes
pub same_first : (l : List ℕ) (v : ℕ) → 0 < length l → same (take 1 l) (v ∷ []) ≡ eqb (get_or l 0 0) v
unfolding same
same_first [] v h = absurd (not-suc-le-zero h)
same_first (x ∷ l) v h = and-true (eqb x v)

pub same-other : (l : List ℕ) (v : ℕ) → (length l ≡ 1 → ⊥) → same l (v ∷ []) ≡ false
unfolding same
same-other [] v n = refl
same-other (x ∷ []) v n = absurd (n refl)
same-other (x ∷ y ∷ l) v n = and-false (eqb x v)
