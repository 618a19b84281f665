-- The laws of XOR, of two numbers and over a list. Assumes nothing.
use mathlib.Core.Path.{◌≡◌, refl, sym, ap, ap₂, ◌∙◌}
use mathlib.Core.List.{List, [], ◌∷◌, ◌++◌}
use Prim.Native.Nat.{ℕ, zero, suc, ◌+◌, ◌*◌, ◌/◌, ◌%◌, ◌<◌}
use native.Mathlib.Omega.{arith}
use lib.Arith.{bin_ind}
use lib.Bits.{bit_xor, differ, xor_step, xor_comm, xor_self, xor_zero_r}
use lib.ListN.{length, get_or, take, drop, set}
use lib.Seq.{set_split, split_at}
use Rattle.xor.specs.Xor.{◌⊕◌, xor_all}

-- one digit

differ_lt : (x y : ℕ) → x < 2 → y < 2 → differ x y < 2
differ_lt zero y hx hy = hy
differ_lt (suc x) zero hx hy = hx
differ_lt (suc zero) (suc y) hx hy = omega arith
differ_lt (suc (suc x)) (suc y) hx hy = absurd (omega arith)

differ_assoc : (x y z : ℕ) → x < 2 → y < 2 → z < 2 → differ (differ x y) z ≡ differ x (differ y z)
differ_assoc zero y z hx hy hz = refl
differ_assoc (suc zero) zero z hx hy hz = refl
differ_assoc (suc zero) (suc zero) zero hx hy hz = refl
differ_assoc (suc zero) (suc zero) (suc zero) hx hy hz = refl
differ_assoc (suc zero) (suc zero) (suc (suc z)) hx hy hz = absurd (omega arith)
differ_assoc (suc zero) (suc (suc y)) z hx hy hz = absurd (omega arith)
differ_assoc (suc (suc x)) y z hx hy hz = absurd (omega arith)

-- a sum's half is the sum of the halves, and its last digit the sum of the last digits
halved : (a b : ℕ) → (bit_xor a b / 2 ≡ bit_xor (a / 2) (b / 2)) × (bit_xor a b % 2 ≡ differ (a % 2) (b % 2))
halved a b = go _ _ _ (xor_step a b) (differ_lt (a % 2) (b % 2) (omega arith) (omega arith))
  where
    go : (s h d : ℕ) → s ≡ h * 2 + d → d < 2 → (s / 2 ≡ h) × (s % 2 ≡ d)
    go s h d e lt = omega arith

pub xor_assoc : (a b c : ℕ) → (a ⊕ b) ⊕ c ≡ a ⊕ (b ⊕ c)
unfolding ◌⊕◌
xor_assoc = bin_ind (λ (n : ℕ). (b c : ℕ) → bit_xor (bit_xor n b) c ≡ bit_xor n (bit_xor b c)) (λ b c. refl) (λ n ih b c.
    xor_step (bit_xor n b) c
    ∙ ap₂ (λ (h d : ℕ). h * 2 + d)
    (ap (λ (h : ℕ). bit_xor h (c / 2)) (halved n b).0 ∙ ih (b / 2) (c / 2) ∙ ap (bit_xor (n / 2)) (sym (halved b c).0))
    (ap (λ (d : ℕ). differ d (c % 2)) (halved n b).1
    ∙ differ_assoc (n % 2) (b % 2) (c % 2) (omega arith) (omega arith) (omega arith)
    ∙ ap (differ (n % 2)) (sym (halved b c).1))
    ∙ sym (xor_step n (bit_xor b c)))

pub ⊕_comm : (a b : ℕ) → a ⊕ b ≡ b ⊕ a
unfolding ◌⊕◌
⊕_comm = xor_comm

pub ⊕_self : (a : ℕ) → a ⊕ a ≡ 0
unfolding ◌⊕◌
⊕_self = xor_self

pub ⊕_zero : (a : ℕ) → a ⊕ 0 ≡ a
unfolding ◌⊕◌
⊕_zero = xor_zero_r

pub zero_⊕ : (a : ℕ) → 0 ⊕ a ≡ a
unfolding ◌⊕◌
zero_⊕ a = refl

-- what is added twice is gone
pub ⊕_cancel : (a b : ℕ) → a ⊕ (a ⊕ b) ≡ b
⊕_cancel a b = rw (← xor_assoc, ⊕_self) (zero_⊕ b)

-- two numbers whose XOR is 0 are equal
pub ⊕_zero_eq : (a b : ℕ) → a ⊕ b ≡ 0 → b ≡ a
⊕_zero_eq a b e = sym (⊕_cancel a b) ∙ rw e (⊕_zero a)

pub xor_all-append : (xs ys : List ℕ) → xor_all (xs ++ ys) ≡ xor_all xs ⊕ xor_all ys
unfolding xor_all
xor_all-append [] ys = sym (zero_⊕ _)
xor_all-append (x ∷ xs) ys = rw (xor_all-append xs ys) (sym (xor_assoc x (xor_all xs) (xor_all ys)))

-- a byte of a list can be summed first
xor_all_middle : (p q : List ℕ) (y : ℕ) → xor_all (p ++ y ∷ q) ≡ y ⊕ xor_all (p ++ q)
unfolding xor_all
xor_all_middle p q y =
    xor_all-append p (y ∷ q) ∙ sym (xor_assoc (xor_all p) y (xor_all q)) ∙ ap (λ (s : ℕ). s ⊕ xor_all q) (⊕_comm (xor_all p) y)
    ∙ xor_assoc y (xor_all p) (xor_all q) ∙ ap (λ (s : ℕ). y ⊕ s) (sym (xor_all-append p q))

-- a list with its sum behind it
pub summed-zero : (b : List ℕ) → xor_all (b ++ xor_all b ∷ []) ≡ 0
unfolding xor_all
summed-zero b = xor_all-append b (xor_all b ∷ []) ∙ rw (⊕_zero (xor_all b)) (⊕_self (xor_all b))

-- two lists that differ in one byte at most, and whose sums are 0, differ in none
pub one-changed : (b : List ℕ) (i v : ℕ) → i < length b → xor_all b ≡ 0 → xor_all (set b i v) ≡ 0 → get_or b i 0 ≡ v
one-changed b i v h was is =
    let old = sym (xor_all_middle (take i b) (drop (suc i) b) (get_or b i 0)) ∙ ap xor_all (sym (split_at b i 0 h)) ∙ was in
    let new = sym (xor_all_middle (take i b) (drop (suc i) b) v) ∙ ap xor_all (sym (set_split b i v h)) ∙ is in
    sym (⊕_zero_eq _ _ old) ∙ ⊕_zero_eq _ _ new
