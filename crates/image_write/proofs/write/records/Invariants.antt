use Rattle.std.proofs.Common.{◌≡◌, take}
use mathlib.Core.List.{flatten}
use Rattle.lists.specs.Lists.{laid_over}
use Rattle.image_write.specs.Written.{records_of}
use Rattle.image_write.proofs.write.records.Given as goal

-- The invariant: the records of the panels passed stand one behind the other. Assumes nothing.
abbrev pub invariant-loop-k : goal.invariant-loop-k
invariant-loop-k l = l.out ≡ laid_over (flatten (take l.k (records_of l.form l.p-items))) l.initial.out
