use native.Mathlib.Omega.{arith}
use Rattle.settings.proofs.Laws.{byte-count-few, byte-count_some}
use Rattle.settings.proofs.rows.Row.byte_count.Goals as goal

pub returns-clause-some : goal.returns-clause-some
returns-clause-some c = omega (arith, byte-count_some c.values.ensures.below, c.values.ensures.table.0)

pub returns-clause-few : goal.returns-clause-few
returns-clause-few c = omega (arith, byte-count-few c.values.ensures.below, c.values.ensures.table.0)
