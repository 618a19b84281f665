-- Of two numbers one is the smaller, or not. Assumes nothing.
use Prim.Native.Nat.{ℕ, ◌≤◌, ◌<◌}
use Rattle.std.proofs.Common.{rules}

-- either way
pub by_size : (P : Type 0) (a b : ℕ) → (a < b → P) → (b ≤ a → P) → P
by_size P a b f g = search rules
