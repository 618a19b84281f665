-- The receiver is open again, and the table well-formed. Assumes nothing.
use Rattle.std.proofs.Common.{sym, ap, subst, ◌∙◌}
use Rattle.panels.specs.WellFormed.{WellFormed}
use Rattle.answers.proofs.Formed.{answered_formed}
use Rattle.line.specs.declared.Heard.{Heard}
use Rattle.play_line.proofs.hear.Goals as goal

pub returns-clause-open : goal.returns-clause-open
returns-clause-open g c =
    let any = g.R.LineReceiver in
    let table = ap (λ (h : Heard g.row.R.Denot). h.table) c.quiet.ensures in
    let receiver = ap (λ (h : Heard g.row.R.Denot). h.receiver) c.quiet.ensures ∙ ap any.fresh c.bytes.ensures in
    (subst WellFormed (sym table) (answered_formed c.requires.0 _), subst any.is_open (sym receiver) (g.met.R.LineReceiver.answers_all.opens c.args.line.receiver c.args.burst.now c.requires.1))
