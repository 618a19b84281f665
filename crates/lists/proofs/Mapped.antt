-- A rule applied to every element. Assumes nothing.
use mathlib.Core.Path.{◌≡◌, refl, sym, ap, ap₂}
use mathlib.Core.List.{List, [], ◌∷◌, ◌++◌, map}
use Prim.Native.Nat.{ℕ, zero, suc, ◌≤◌, ◌<◌}
use native.Mathlib.Nat.{not-suc-le-zero, le_of_suc-le-suc}
use native.Mathlib.Omega.{arith}
use lib.ListN.{length, get_or, take, drop}

module _ {A : Type 0} (f : A → A) (d : A) where
  -- it changes nothing
  pub map_same : (l : List A) → ((j : ℕ) → j < length l → f (get_or l j d) ≡ get_or l j d) → map f l ≡ l
  map_same [] h = refl
  map_same (x ∷ l) h = ap₂ (λ (y : A) (m : List A). y ∷ m) (h 0 (omega arith)) (map_same l (λ j s. h (suc j) (omega arith)))

-- two rules that agree on every element
pub map_alike : {A B : Type 0} (f g : A → B) (d : A) (l : List A) → ((j : ℕ) → j < length l → f (get_or l j d) ≡ g (get_or l j d)) → map f l ≡ map g l
map_alike f g d [] h = refl
map_alike {B} f g d (x ∷ l) h = ap₂ (λ (y : B) (m : List B). y ∷ m) (h 0 (omega arith)) (map_alike f g d l (λ j s. h (suc j) (omega arith)))

-- A list of which the first elements are turned: the seam may go on over elements that would not change.
pub seam_on : {A : Type 0} (f : A → A) (d : A) (l : List A) (a b : ℕ) → a ≤ b → b ≤ length l → ((k : ℕ) → a ≤ k → k < b → f (get_or l k d) ≡ get_or l k d)
    → take a (map f l) ++ drop a l ≡ take b (map f l) ++ drop b l
seam_on f d l zero zero h m same = refl
seam_on f d l (suc a) zero h m same = absurd (not-suc-le-zero h)
seam_on f d [] a (suc b) h m same = absurd (not-suc-le-zero m)
seam_on {A} f d (x ∷ l) zero (suc b) h m same =
    ap₂ (λ (y : A) (r : List A). y ∷ r) (sym (same 0 (omega arith) (omega arith)))
    (seam_on f d l zero b (omega arith) (le_of_suc-le-suc m) (λ k i j. same (suc k) (omega arith) (omega arith)))
seam_on {A} f d (x ∷ l) (suc a) (suc b) h m same =
    ap (λ (r : List A). f x ∷ r) (seam_on f d l a b (le_of_suc-le-suc h) (le_of_suc-le-suc m) (λ k i j. same (suc k) (omega arith) (omega arith)))
