use Rattle.std.proofs.Common.{◌≡◌, take}
use mathlib.Core.List.{flatten}
use Rattle.lists.specs.Lists.{start_of, laid_over}
use Rattle.image_write.specs.Written.{fields_of}
use Rattle.image_write.proofs.write.all_fields.Given as goal

-- The invariant: the fields of the rows passed stand one behind the other. Assumes nothing.
abbrev pub invariant-loop-k : goal.invariant-loop-k
invariant-loop-k l = record {
  next : l.next ≡ start_of (fields_of l.form l.values) l.k;
  laid : l.out ≡ laid_over (flatten (take l.k (fields_of l.form l.values))) l.initial.out;
}
