use Rattle.image_salvage.proofs.Loop.{Turn}
use Rattle.image_salvage.proofs.fields.kept.Given as goal

-- What is left comes to what the whole comes to.
abbrev pub invariant-loop-k : goal.invariant-loop-k
invariant-loop-k l = Turn l.form l.profile l.number l.bytes l.initial.lines l.from l.lines l.values l.seen l.at l.next l._k
