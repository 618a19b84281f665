-- Lists that stand one behind the other in one list, as the values of the rows do. Assumes nothing.
use mathlib.Core.Path.{◌≡◌, refl, sym, ap}
use mathlib.Core.List.{List, [], ◌∷◌, ◌++◌, append_assoc, append-nil, flatten}
use Prim.Native.Nat.{ℕ, zero, suc, ◌+◌, ◌*◌, ◌≤◌, ◌<◌}
use native.Mathlib.Nat.{zero-add, mul-zero, mul-suc, not-suc-le-zero, le_of_suc-le-suc}
use native.Mathlib.Omega.{arith}
use lib.ListN.{length, get_or, take, drop, length-append, get_or-append}
use Rattle.lists.specs.Lists.{start_of}
use Rattle.std.proofs.lemmas.Grind.{common_steps}

module _ {A : Type 0} where
  -- element k of list j
  pub in_flat : (ls : List (List A)) (j k : ℕ) (d : A) → k < length (get_or ls j [])
      → get_or (flatten ls) (start_of ls j + k) d ≡ get_or (get_or ls j []) k d
  unfolding flatten
  in_flat [] j k d h = absurd (not-suc-le-zero h)
  in_flat (l ∷ ls) zero k d h = rw zero-add (get_or-append l _ d k h)
  in_flat (l ∷ ls) (suc j) k d h = grind (arith, common_steps, in_flat ls j k d h)

  -- each list is among them, and no two overlap
  pub flat_fits : (ls : List (List A)) (j : ℕ) → start_of ls j + length (get_or ls j []) ≤ length (flatten ls)
  unfolding flatten
  flat_fits [] zero = omega arith
  flat_fits [] (suc j) = omega arith
  flat_fits (l ∷ ls) zero = simp length-append (omega arith)
  flat_fits (l ∷ ls) (suc j) = let h = flat_fits ls j in simp length-append (omega arith)

  pub flat_apart : (ls : List (List A)) (j k : ℕ) → j < k → start_of ls j + length (get_or ls j []) ≤ start_of ls k
  unfolding flatten
  flat_apart ls j zero h = absurd (not-suc-le-zero h)
  flat_apart [] zero (suc k) h = omega arith
  flat_apart [] (suc j) (suc k) h = omega arith
  flat_apart (l ∷ ls) zero (suc k) h = simp length-append (omega arith)
  flat_apart (l ∷ ls) (suc j) (suc k) h = let r = flat_apart ls j k (omega arith) in simp length-append (omega arith)

  -- lists one behind the other: one more of them
  pub flat_more : (ls : List (List A)) (k : ℕ) → k < length ls → flatten (take (suc k) ls) ≡ flatten (take k ls) ++ get_or ls k []
  unfolding flatten
  flat_more [] k h = absurd (not-suc-le-zero h)
  flat_more (l ∷ ls) zero h = append-nil l
  flat_more (l ∷ ls) (suc k) h = rw (flat_more ls k (le_of_suc-le-suc h)) (sym (append_assoc l _ _))

  -- lists one behind the other, seen from list k
  pub flat_at : (ls : List (List A)) (k : ℕ) → k < length ls → flatten ls ≡ flatten (take k ls) ++ (get_or ls k [] ++ flatten (drop (suc k) ls))
  unfolding flatten
  flat_at [] k h = absurd (not-suc-le-zero h)
  flat_at (l ∷ ls) zero h = refl
  flat_at (l ∷ ls) (suc k) h = rw (append_assoc l) (ap (λ r. l ++ r) (flat_at ls k (le_of_suc-le-suc h)))

  -- lists of one length, one behind the other
  pub alike_long : (m : ℕ) (ls : List (List A)) → ((j : ℕ) → j < length ls → length (get_or ls j []) ≡ m)
      → (k : ℕ) → k ≤ length ls → length (flatten (take k ls)) ≡ m * k
  unfolding flatten
  alike_long m ls each-is zero h = sym (mul-zero m)
  alike_long m ls each-is (suc k) h = grind (arith, common_steps, alike_long m ls each-is k (omega arith), flat_more, length-append, mul-suc)
