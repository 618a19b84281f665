use mathlib.Core.Path.{◌≡◌}
use Prim.Native.Nat.{◌-◌, ◌≤◌}
use lib.ListN.{length, drop}
use Rattle.image_record.specs.Run.{run_from}
use Rattle.image_record.proofs.take_fields.Given as goal

-- The invariant: what is left comes to what all comes to. Assumes nothing.
abbrev pub invariant-loop-row : goal.invariant-loop-row
invariant-loop-row l =
    (l.at ≤ length l.left) × (run_from l.form l.profile l.initial.seen l.initial.values l.left ≡ run_from l.form l.profile l.seen l.values (drop l.at l.left))

abbrev pub decreases-loop-row : goal.decreases-loop-row
decreases-loop-row l = length l.left - l.at
