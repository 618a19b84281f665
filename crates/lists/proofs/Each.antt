-- Lists made by a rule. Assumes nothing.
use mathlib.Core.Path.{◌≡◌, refl, sym, ap, ◌∙◌}
use Prim.Native.Nat.{ℕ, zero, suc, ◌<◌}
use mathlib.Core.List.{List, [], ◌∷◌}
use native.Mathlib.Nat.{le_of_suc-le-suc, not-suc-le-zero}
use native.Mathlib.Omega.{arith}
use lib.ListN.{length, get_or, set, replicate}
use Rattle.lists.specs.Lists.{each}
use Rattle.std.proofs.lemmas.Grind.{common_steps}

pub in_each : {A : Type 0} (f : ℕ → A) (n : ℕ) {k : ℕ} (d : A) → k < n → get_or (each f n) k d ≡ f k
in_each f zero d h = absurd (not-suc-le-zero h)
in_each f (suc n) {k = zero} d h = refl
in_each f (suc n) {k = suc k} d h = in_each (λ k. f (suc k)) n d (le_of_suc-le-suc h)

-- A rule that holds at every place of a table, by one test: antt computes both sides of it over the whole table.
pub alike : {A : Type 0} (f g : ℕ → A) (n : ℕ) → each f n ≡ each g n → {k : ℕ} → k < n → f k ≡ g k
alike f g n e {k} h = sym (in_each f n (f k) h) ∙ ap (λ l. get_or l k (f k)) e ∙ in_each g n (f k) h

pub length-each : {A : Type 0} (f : ℕ → A) (n : ℕ) → length (each f n) ≡ n
length-each f zero = refl
length-each f (suc n) = ap suc (length-each (λ k. f (suc k)) n)

pub each_alike : {A : Type 0} (f g : ℕ → A) (n : ℕ) → ((k : ℕ) → k < n → f k ≡ g k) → each f n ≡ each g n
each_alike f g zero same = refl
each_alike f g (suc n) same =
    rw (same 0 (omega arith), each_alike (λ k. f (suc k)) (λ k. g (suc k)) n (λ k h. same (suc k) (omega arith)))

pub each_same : {A : Type 0} (f : ℕ → A) (n : ℕ) (a : A) → ((k : ℕ) → k < n → f k ≡ a) → each f n ≡ replicate n a
each_same f zero a same = refl
each_same f (suc n) a same = rw (same 0 (omega arith), each_same (λ k. f (suc k)) n a (λ k h. same (suc k) (omega arith)))

pub each_get_d : {A : Type 0} (ls : List A) (d : A) → each (λ k. get_or ls k d) (length ls) ≡ ls
each_get_d [] d = refl
each_get_d (l ∷ ls) d = ap (λ r. l ∷ r) (each_get_d ls d)

-- a list made by one rule, with another value stored at a place, is made by a rule that differs there alone
pub set-each : {A : Type 0} (f g : ℕ → A) (n j : ℕ) → j < n → ((k : ℕ) → (k ≡ j → ⊥) → f k ≡ g k) → set (each f n) j (g j) ≡ each g n
set-each f g zero j h same = absurd (not-suc-le-zero h)
set-each {A} f g (suc n) zero h same = grind (arith, common_steps)
set-each f g (suc n) (suc j) h same =
    rw (same 0 (λ e. omega arith), set-each (λ k. f (suc k)) (λ k. g (suc k)) n j (le_of_suc-le-suc h) (λ k ne. same (suc k) (λ e. ne (omega arith))))
