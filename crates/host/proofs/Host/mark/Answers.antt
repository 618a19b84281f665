use mathlib.Core.Path.{ap, ◌∙◌}
use Rattle.host.specs.declared.Host.{Host}
use Rattle.host.specs.declared.Outcome.{Outcome}
use Rattle.host.specs.Machine.{idle}
use Rattle.host.specs.Calls.{host_of}
use Rattle.host.specs.Private.Steps.{plain_step}
use Rattle.host.proofs.Moves.{no_room, free-mark, mark-heard}
use Rattle.host.proofs.Answers.{stays}
use Rattle.host.proofs.Host.mark.Goals as goal

pub returns-then-out-lt-LONGEST : goal.returns-then-out-lt-LONGEST
returns-then-out-lt-LONGEST c = stays _ _ _ (no_room _ _ _ c.if-out-lt-LONGEST.true) c.plain.ensures

pub returns-in_default : goal.returns-in_default
returns-in_default c =
    let a = c.args in
    stays (host_of (idle a.self.edition)) _ _ (free-mark a.out.now a.self c.if-out-lt-LONGEST.false c.in_default.not-Waiting) (c.plain-in_default.ensures ∙ ap (λ (h : Host). plain_step h 0 Outcome.Idle) c.open.ensures)

pub returns : goal.returns
returns c =
    let a = c.args in
    rw (mark-heard a.out.now a.self c.if-out-lt-LONGEST.false _ c.in-Waiting.is) c.send_again.ensures
