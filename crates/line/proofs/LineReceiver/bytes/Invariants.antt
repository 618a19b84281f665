use Rattle.std.proofs.Common.{◌≡◌, drop}
use mathlib.Core.List.{foldl}
use Rattle.line.proofs.LineReceiver.bytes.Given as goal

-- The bytes from the index on are still to come. Assumes nothing.
abbrev pub invariant-loop-b : goal.invariant-loop-b
invariant-loop-b g l = let next = g.Self.LineReceiver.next in foldl next l.initial.receiver l.burst ≡ foldl next l.receiver (drop l.b-index l.burst)
