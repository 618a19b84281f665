use mathlib.Core.Path.{sym, ◌∙◌}
use Rattle.host.proofs.Moves.{no_room, busy, rests, not_started, started}
use Rattle.host.proofs.Answers.{stays}
use Rattle.host.proofs.Host.start.Goals as goal

pub returns-then-out-lt-LONGEST : goal.returns-then-out-lt-LONGEST
returns-then-out-lt-LONGEST c = stays _ _ _ (no_room _ _ _ c.if-out-lt-LONGEST.true) c.plain.ensures

pub returns-in-Waiting : goal.returns-in-Waiting
returns-in-Waiting c =
    let a = c.args in
    stays a.self _ _ (busy a.out.now a.self c.if-out-lt-LONGEST.false _ c.in-Waiting.is a.request) c.plain-in-Waiting.ensures

pub returns-in-Resting : goal.returns-in-Resting
returns-in-Resting c =
    let a = c.args in
    stays a.self _ _ (rests a.out.now a.self c.if-out-lt-LONGEST.false c.in-Resting.is a.request) c.plain-in-Resting.ensures

pub returns-then-not-is_request : goal.returns-then-not-is_request
returns-then-not-is_request c =
    let a = c.args in
    stays a.self _ _ (not_started a.out.now a.self c.if-out-lt-LONGEST.false c.in-Idle.is a.request (sym c.is_request.ensures ∙ c.if-not-is_request.true)) c.plain-then-not-is_request.ensures

pub returns-else-not-is_request : goal.returns-else-not-is_request
returns-else-not-is_request c =
    let a = c.args in
    rw (started a.out.now a.self c.if-out-lt-LONGEST.false c.in-Idle.is a.request (sym c.is_request.ensures ∙ c.if-not-is_request.false)) c.begin.ensures
