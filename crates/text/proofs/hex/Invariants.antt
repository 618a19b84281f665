-- The digits of the bytes passed stand at the front of the output, and the rest is as it was.
use Rattle.std.proofs.Common.{◌≡◌, ◌*◌, ◌++◌, take, drop}
use Rattle.text.specs.Hex.{hex_of}
use Rattle.text.proofs.hex.Given as goal

abbrev pub invariant-loop-i : goal.invariant-loop-i
invariant-loop-i l = l.out ≡ hex_of (take l.i l.bytes) ++ drop (2 * l.i) l.initial.out
