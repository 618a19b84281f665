use mathlib.Core.Path.{sym, ◌∙◌}
use Rattle.answers.specs.Turn.{is_stored}
use Rattle.answers.proofs.judging.is_stored.Goals as goal

pub returns-then-reaches : goal.returns-then-reaches
unfolding is_stored
returns-then-reaches c = c.takes.ensures ∙ rw (sym c.reaches.ensures ∙ c.if-reaches.true)

pub returns-else-reaches : goal.returns-else-reaches
unfolding is_stored
returns-else-reaches c = c.if-reaches.false ∙ rw (sym c.reaches.ensures ∙ c.if-reaches.false)
