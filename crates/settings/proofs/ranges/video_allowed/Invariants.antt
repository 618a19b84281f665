use mathlib.Core.Path.{◌≡◌}
use mathlib.Core.Bool.{Bool}
use mathlib.Core.List.{List}
use Prim.Native.Nat.{ℕ, ◌-◌, ◌≤◌}
use Rattle.settings.specs.declared.Profile.{Profile}
use Rattle.settings.specs.Settings.{video_allowed, most_values}
use Rattle.settings.proofs.Laws.{allowed_after}
use Rattle.settings.proofs.ranges.video_allowed.Given as goal

abbrev pub rest : List ℕ → ℕ → Bool
rest vs k = allowed_after (video_allowed Profile.Phoenix) vs k

abbrev pub invariant-loop-k : goal.invariant-loop-k
invariant-loop-k l = (l.k ≤ most_values) × (rest l.values 0 ≡ rest l.values l.k)

abbrev pub decreases-loop-k : goal.decreases-loop-k
decreases-loop-k l = most_values - l.k
