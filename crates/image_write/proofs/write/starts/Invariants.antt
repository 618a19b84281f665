use Rattle.std.proofs.Common.{◌≡◌, ℕ, ◌*◌, List, take}
use mathlib.Core.List.{flatten}
use Rattle.lists.specs.Lists.{each, laid_over}
use Rattle.image_write.specs.Written.{high_low}
use Rattle.image_write.proofs.write.starts.Given as goal

abbrev pub pairs : ℕ → ℕ → List (List ℕ)
pairs size n = each (λ k. high_low (size * k)) n

-- The invariant: the starts passed stand one behind the other. Assumes nothing.
abbrev pub invariant-loop-k : goal.invariant-loop-k
invariant-loop-k l = l.out ≡ laid_over (flatten (take l.k (pairs l.size l.n))) l.initial.out
