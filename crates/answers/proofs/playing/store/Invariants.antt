use Rattle.std.proofs.Common.{◌≡◌, ◌++◌, take, drop}
use mathlib.Core.List.{map}
use Rattle.answers.specs.Turn.{turned_by}
use Rattle.answers.proofs.playing.store.Given as goal

-- The first of the places are turned, the others are as they were. Assumes nothing.
abbrev pub invariant-loop-p : goal.invariant-loop-p
invariant-loop-p l = let f = turned_by l.change l.d in l.p-items ≡ take l.p-index (map f l.initial.p-items) ++ drop l.p-index l.initial.p-items
