-- A burst with its count before it, and then what stands behind it; where fewer bytes come, it is cut. Assumes nothing.
use Prim.Native.Nat.{ℕ, zero, suc, ◌≤◌, ◌<◌}
use mathlib.Core.Bool.{true, false, cond}
use mathlib.Core.List.{List, [], ◌∷◌, ◌++◌}
use mathlib.Core.Path.{◌≡◌, refl, ap, ◌∙◌}
use native.Mathlib.Omega.{arith}
use borrow.Author.Tests.{le-leb, lt-leb}
use lib.Dec.{leb}
use lib.ListN.{length, take, drop, length-drop, length-append}
use lib.Seq.{take_all, take_at, drop_at, drop-length}
use Rattle.bursts.specs.Bursts.{Bursts, bursts_up_to, bursts_in}

-- the first burst, and those behind it
abbrev pub first_of : List ℕ → Bursts → Bursts
first_of b rest = record { whole = b ∷ rest.whole; cut = rest.cut }

pub no_burst : bursts_in [] ≡ record { whole = []; cut = false }
unfolding bursts_in bursts_up_to
no_burst = refl

-- as many as there are bytes are enough, and more find no more
up_to_enough : (k m : ℕ) (bytes : List ℕ) → length bytes ≤ k → length bytes ≤ m → bursts_up_to k bytes ≡ bursts_up_to m bytes
unfolding bursts_up_to
up_to_enough zero zero [] h g = refl
up_to_enough zero (suc m) [] h g = refl
up_to_enough (suc k) zero [] h g = refl
up_to_enough (suc k) (suc m) [] h g = refl
up_to_enough zero m (n ∷ bytes) h g = absurd (omega arith)
up_to_enough (suc k) zero (n ∷ bytes) h g = absurd (omega arith)
up_to_enough (suc k) (suc m) (n ∷ bytes) h g =
    ap (λ (rest : Bursts). cond (leb n (length bytes)) (first_of (take n bytes) rest) (record { whole = []; cut = true }))
    (up_to_enough k m (drop n bytes) (rw length-drop (omega arith)) (rw length-drop (omega arith)))

pub next-burst : (n : ℕ) (bytes : List ℕ) → n ≤ length bytes → bursts_in (n ∷ bytes) ≡ first_of (take n bytes) (bursts_in (drop n bytes))
unfolding bursts_in bursts_up_to
next-burst n bytes h =
    let few : length (drop n bytes) ≤ length bytes = rw length-drop (omega arith) in
    rw (le-leb n (length bytes) h) (ap (first_of (take n bytes)) (up_to_enough (length bytes) (length (drop n bytes)) (drop n bytes) few (omega arith)))

pub cut-burst : (n : ℕ) (b : List ℕ) → length b < n → bursts_in (n ∷ b) ≡ record { whole = []; cut = true }
unfolding bursts_in bursts_up_to
cut-burst n b h = simp (lt-leb _ _ h)

-- a burst written with its count before it, alone and before others
pub one-burst : (b : List ℕ) → bursts_in (length b ∷ b) ≡ record { whole = b ∷ []; cut = false }
one-burst b = next-burst (length b) b (omega arith) ∙ rw (take_all (length b) b (omega arith), drop-length b, no_burst)

pub bursts_behind : (b bytes : List ℕ) → bursts_in (length b ∷ b ++ bytes) ≡ first_of b (bursts_in bytes)
bursts_behind b bytes =
    next-burst (length b) (b ++ bytes) (rw length-append (omega arith))
    ∙ rw (take_at b bytes (length b) refl, drop_at b bytes (length b) refl)
