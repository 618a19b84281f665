use mathlib.Core.Path.{ap, ◌∙◌}
use lib.ListN.{get_or}
use Rattle.settings.specs.Settings.{row_count}
use Rattle.settings.specs.declared.Values.{Values}
use Rattle.settings.specs.declared.Table.{Table}
use Rattle.settings.specs.Private.Numbers.{values_at, paper_table}
use Rattle.lists.proofs.Each.{in_each}
use Rattle.settings.proofs.rows.Row.values.Goals as goal

pub returns-clause-table : goal.returns-clause-table
unfolding paper_table
returns-clause-table c =
    let e = ap (λ (t : Table). get_or t.values c.self.inside.number _) c.the_table.ensures ∙ in_each values_at row_count _ c.self.invariant ∙ ap values_at c.self.view_is in
    (ap (λ (r : Values). r.0) e, ap (λ (r : Values). r.1) e)
