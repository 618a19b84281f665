-- Bytes laid over others: what stands before them, they themselves, what stands behind them, and one piece behind the other.
-- Assumes nothing.
use mathlib.Core.Path.{◌≡◌, refl, sym, ap, ◌∙◌}
use mathlib.Core.List.{List, [], ◌∷◌, ◌++◌, append_assoc}
use Prim.Native.Nat.{ℕ, zero, suc, ◌+◌, ◌-◌, ◌≤◌, ◌<◌}
use native.Mathlib.Nat.{add_assoc, zero-add}
use native.Mathlib.Numerals.{add-one}
use native.Mathlib.Omega.{arith}
use borrow.Rule.Slice.PartMut.{mid_of, put_mid}
use lib.ListN.{length, get_or, take, drop, set, length-append, take-append-drop}
use lib.Seq.{length-take-le, take-suc, take_at, drop_at, take-take, take-add, drop-drop, set_at, set_split, append_snoc, drop-append-add}
use Rattle.lists.specs.Lists.{laid_at, laid_over}
use Rattle.std.proofs.lemmas.Grind.{common_steps}

-- the part before the seam
pub front : (at : ℕ) (b l : List ℕ) → at ≤ length l → length (take at l ++ b) ≡ at + length b
front at b l h = grind (arith, common_steps)

pub length_laid : (at : ℕ) (b l : List ℕ) → at + length b ≤ length l → length (laid_at at b l) ≡ length l
unfolding laid_at
length_laid at b l h = grind (arith, common_steps)

module _ (at : ℕ) (b l : List ℕ) (h : at + length b ≤ length l) where
  before_laid : take at (laid_at at b l) ≡ take at l
  unfolding laid_at
  before_laid = grind (arith, common_steps)

  from_laid : drop at (laid_at at b l) ≡ b ++ drop (at + length b) l
  unfolding laid_at
  from_laid = grind (arith, common_steps)

  pub laid_itself : take (length b) (drop at (laid_at at b l)) ≡ b
  laid_itself = rw from_laid (take_at b _ (length b) refl)

  pub behind_laid : (a : ℕ) → at + length b ≤ a → drop a (laid_at at b l) ≡ drop a l
  behind_laid a g =
      let e : at + length b + (a - (at + length b)) ≡ a = omega arith in
      let d = a - (at + length b) in
      let past : drop (at + length b) (laid_at at b l) ≡ drop (at + length b) l = sym (drop-drop (length b) at _) ∙ rw from_laid (drop_at b _ (length b) refl) in
      ap (λ (k : ℕ). drop k (laid_at at b l)) (sym e) ∙ sym (drop-drop d (at + length b) (laid_at at b l)) ∙ ap (drop d) past
      ∙ drop-drop d (at + length b) l ∙ ap (λ (k : ℕ). drop k l) e

-- what stands there, laid there again
front_and_rest : (n : ℕ) (l : List ℕ) → take n l ++ drop (length (take n l)) l ≡ l
front_and_rest zero l = refl
front_and_rest (suc n) [] = refl
front_and_rest (suc n) (x ∷ l) = ap (λ (m : List ℕ). x ∷ m) (front_and_rest n l)

pub laid_own : (at n : ℕ) (l : List ℕ) → laid_at at (take n (drop at l)) l ≡ l
unfolding laid_at
laid_own at n l =
    let b = take n (drop at l) in
    append_assoc (take at l) b (drop (at + length b) l)
    ∙ ap (λ (m : List ℕ). take at l ++ (b ++ m)) (sym (drop-drop (length b) at l))
    ∙ ap (λ (m : List ℕ). take at l ++ m) (front_and_rest n (drop at l)) ∙ take-append-drop at l

-- a part that ends before them
part_is : (a n : ℕ) (l : List ℕ) → a ≤ length l → take n (drop a l) ≡ drop a (take (a + n) l)
part_is a n l h = sym (rw (take-add a n l) (drop_at (take a l) _ a (length-take-le a l h)))

pub ahead_of_laid : (at a n : ℕ) (b l : List ℕ) → at + length b ≤ length l → a + n ≤ at → take n (drop a (laid_at at b l)) ≡ take n (drop a l)
ahead_of_laid at a n b l h g =
    let x = laid_at at b l in
    let long = length_laid at b l h in
    part_is a n x (omega arith)
    ∙ ap (drop a) (sym (take-take (a + n) at x g) ∙ ap (take (a + n)) (before_laid at b l h) ∙ take-take (a + n) at l g)
    ∙ sym (part_is a n l (omega arith))

-- a slice copied into the rest of the list from `at` on
pub laid_copy : (at : ℕ) (s l : List ℕ) → at + length s ≤ length l
    → put_mid at (length l - at) l (s ++ drop (length s) (mid_of at (length l - at) l)) ≡ laid_at at s l
unfolding laid_at
laid_copy at s l h = grind (arith, common_steps)

-- and into a part that is as long
pub laid_part : (at : ℕ) (s l : List ℕ) → at + length s ≤ length l
    → put_mid at (length s) l (s ++ drop (length s) (mid_of at (length s) l)) ≡ laid_at at s l
unfolding laid_at
laid_part at s l h = grind (arith, common_steps)

-- nothing laid, and bytes laid over the front
pub laid_none : (at : ℕ) (l : List ℕ) → laid_at at [] l ≡ l
unfolding laid_at
laid_none at l = grind (arith, common_steps)

pub laid_over_lem : (b l : List ℕ) → laid_at 0 b l ≡ laid_over b l
unfolding laid_at laid_over
laid_over_lem b l = rw zero-add

-- behind what is laid over its front a list is as before
pub behind-over : (b l : List ℕ) → drop (length b) (laid_over b l) ≡ drop (length b) l
unfolding laid_over
behind-over b l = drop_at b _ _ refl

-- one piece behind the other
pub laid_then : (at m : ℕ) (a b l : List ℕ) → m ≡ at + length a → m + length b ≤ length l
    → laid_at m b (laid_at at a l) ≡ laid_at at (a ++ b) l
unfolding laid_at
laid_then at m a b l e h = grind (arith, common_steps, front, take_at, drop-append-add, drop-drop, length-append, add_assoc, append_assoc)

pub laid_set : (at v : ℕ) (l : List ℕ) → at < length l → set l at v ≡ laid_at at (v ∷ []) l
unfolding laid_at
laid_set at v l h = set_split l at v h ∙ rw (append_assoc (take at l) (v ∷ []), add-one)

-- a byte put before what was laid
pub laid_before : (at v : ℕ) (s l : List ℕ) → at < length l → set (laid_at (at + 1) s l) at v ≡ laid_at at (v ∷ s) l
unfolding laid_at
laid_before at v s l h =
    let front = take at l in
    let rest = drop (at + suc (length s)) l in
    let x = get_or l at 0 in
    let one : take (at + 1) l ≡ front ++ x ∷ [] = rw add-one (take-suc l at 0 h) in
    let same : at + 1 + length s ≡ at + suc (length s) = omega arith in
    rw (one, same, append_snoc front x s, append_assoc front (x ∷ s) rest, append_assoc front (v ∷ s) rest)
    (set_at front x (s ++ rest) v at (length-take-le at l (omega arith)))

pub laid_two : (at a b : ℕ) (l : List ℕ) → at + 1 < length l → set (set l at a) (at + 1) b ≡ laid_at at (a ∷ b ∷ []) l
laid_two at a b l h = grind (arith, common_steps, laid_set, length_laid, laid_then)
