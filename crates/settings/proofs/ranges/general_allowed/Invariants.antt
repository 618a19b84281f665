use mathlib.Core.Path.{◌≡◌}
use mathlib.Core.Bool.{Bool}
use mathlib.Core.List.{List}
use Prim.Native.Nat.{ℕ, ◌-◌, ◌≤◌}
use Rattle.settings.specs.declared.Profile.{Profile}
use Rattle.settings.specs.Settings.{setting, byte_count}
use Rattle.settings.proofs.Laws.{allowed_after}
use Rattle.settings.proofs.ranges.general_allowed.Given as goal

abbrev pub rest : ℕ → List ℕ → ℕ → Bool
rest row vs k = allowed_after ((setting row).allowed Profile.General) vs k

abbrev pub invariant-loop-k : goal.invariant-loop-k
invariant-loop-k l = (l.k ≤ byte_count l.fn.row) × (rest l.fn.row l.values 0 ≡ rest l.fn.row l.values l.k)

abbrev pub decreases-loop-k : goal.decreases-loop-k
decreases-loop-k l = byte_count l.fn.row - l.k
