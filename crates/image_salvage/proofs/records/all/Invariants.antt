use Rattle.image_salvage.proofs.Rounds.{Round}
use Rattle.image_salvage.proofs.records.all.Given as goal

-- The records that are left come to what all come to.
abbrev pub invariant-loop-k : goal.invariant-loop-k
invariant-loop-k l = Round l.frame l.initial.lines l.lines l.places l.kept l.seen l.told l.k
