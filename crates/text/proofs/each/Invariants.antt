-- The steps so far lead to the state. Assumes nothing.
use Rattle.text.specs.Runs.{RunsTo}
use Rattle.text.proofs.each.Given as goal

abbrev pub invariant-loop-number : goal.invariant-loop-number
invariant-loop-number g l = RunsTo g.F.Fn l.step l.fn.first l.number-counter l.state
