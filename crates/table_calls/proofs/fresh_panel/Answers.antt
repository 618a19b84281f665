use mathlib.Core.Path.{refl, ap, ◌∙◌}
use lib.ListN.{length}
use Rattle.settings.specs.Settings.{settings}
use Rattle.settings.proofs.Laws.{fresh-count}
use Rattle.table_calls.proofs.fresh_panel.Goals as goal

pub store-requires : goal.store-requires
unfolding settings
store-requires c = (refl, ap length c.fresh-values.ensures ∙ fresh-count c.args.profile)
