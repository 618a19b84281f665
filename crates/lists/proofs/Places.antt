-- Lists that are changed place by place. Assumes nothing.
use mathlib.Core.Path.{◌≡◌, refl, ap}
use mathlib.Core.List.{List, [], ◌∷◌, ◌++◌}
use Prim.Native.Nat.{ℕ, zero, suc, ◌≤◌, ◌<◌}
use native.Mathlib.Nat.{le_of_suc-le-suc, not-suc-le-zero}
use lib.ListN.{length, get_or, take, drop, set}

module _ {A : Type 0} where
  -- the first j elements are those of src, the rest those of dst: one more is copied
  pub store : (src dst : List A) (j : ℕ) (d : A) → j < length src → j < length dst
      → set (take j src ++ drop j dst) j (get_or src j d) ≡ take (suc j) src ++ drop (suc j) dst
  store [] dst j d h k = absurd (not-suc-le-zero h)
  store (x ∷ src) [] j d h k = absurd (not-suc-le-zero k)
  store (x ∷ src) (y ∷ dst) zero d h k = refl
  store (x ∷ src) (y ∷ dst) (suc j) d h k = ap (λ (l : List A). x ∷ l) (store src dst j d (le_of_suc-le-suc h) (le_of_suc-le-suc k))

  -- from the seam on it is still dst's
  pub from_seam : (src dst : List A) (k j : ℕ) (d : A) → k ≤ length src → k ≤ length dst → k ≤ j
      → get_or (take k src ++ drop k dst) j d ≡ get_or dst j d
  from_seam src dst zero j d h m l = refl
  from_seam [] dst (suc k) j d h m l = absurd (not-suc-le-zero h)
  from_seam (x ∷ src) [] (suc k) j d h m l = absurd (not-suc-le-zero m)
  from_seam (x ∷ src) (y ∷ dst) (suc k) zero d h m l = absurd (not-suc-le-zero l)
  from_seam (x ∷ src) (y ∷ dst) (suc k) (suc j) d h m l = from_seam src dst k j d (le_of_suc-le-suc h) (le_of_suc-le-suc m) (le_of_suc-le-suc l)
