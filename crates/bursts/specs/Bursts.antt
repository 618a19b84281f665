-- Bursts one behind the other. 01, "The play program": for each burst a count byte and then that many bytes.
use Rattle.std.specs.Prelude.{ℕ, zero, suc, Bool, true, false, cond, List, [], ◌∷◌, leb, length, take, drop}

-- the bursts that stand there whole, and whether the bytes stop inside another
pub record Bursts : Type 0 where
  pub whole : List (List ℕ)
  pub cut : Bool

-- the first k bursts
unfoldable pub bursts_up_to : ℕ → List ℕ → Bursts
bursts_up_to zero bytes = record { whole = []; cut = false }
bursts_up_to (suc k) [] = record { whole = []; cut = false }
bursts_up_to (suc k) (n ∷ bytes) =
    let rest = bursts_up_to k (drop n bytes) in
    cond (leb n (length bytes)) (record { whole = take n bytes ∷ rest.whole; cut = rest.cut }) (record { whole = []; cut = true })

-- each takes a byte at least, so that there are no more bursts than bytes
unfoldable pub bursts_in : List ℕ → Bursts
bursts_in bytes = bursts_up_to (length bytes) bytes
