use mathlib.Core.Path.{ap, ◌∙◌}
use lib.ListN.{get_or}
use Rattle.settings.specs.Settings.{row_count}
use Rattle.settings.specs.declared.Codes.{Codes}
use Rattle.settings.specs.declared.Table.{Table}
use Rattle.settings.specs.Private.Numbers.{codes_at, paper_table}
use Rattle.lists.proofs.Each.{in_each}
use Rattle.settings.proofs.rows.Row.codes.Goals as goal

pub returns : goal.returns
unfolding paper_table
returns c =
    let e = ap (λ (t : Table). get_or t.codes c.self.inside.number _) c.the_table.ensures ∙ in_each codes_at row_count _ c.self.invariant ∙ ap codes_at c.self.view_is in
    (ap (λ (r : Codes). r.0) e, ap (λ (r : Codes). r.1) e)
