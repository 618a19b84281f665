use mathlib.Core.Path.{◌≡◌, refl, sym, ap, ap₂, ◌∙◌}
use mathlib.Core.List.{flatten}
use lib.ListN.{length}
use Rattle.lists.specs.Lists.{laid_at}
use Rattle.settings.specs.declared.Profile.{Profile}
use Rattle.settings.specs.declared.Table.{Table}
use Rattle.settings.specs.Settings.{settings, allowed_by_row, video_fresh, fresh_values, values_with, video_row}
use Rattle.settings.specs.Private.Numbers.{paper_table}
use Rattle.settings.proofs.Laws.{is_general}
use Rattle.settings.proofs.fresh.Goals as goal

phoenix_fresh : values_with video_row (video_fresh Profile.Phoenix) (fresh_values Profile.General) ≡ fresh_values Profile.Phoenix
unfolding settings allowed_by_row fresh_values flatten laid_at
phoenix_fresh = refl

pub store-requires : goal.store-requires
unfolding settings fresh_values flatten paper_table
store-requires c = (
  ap (λ (t : Table). length t.phoenix.fresh) c.the_table-in-Phoenix.ensures,
  ap (λ (t : Table). length t.fresh) c.the_table.ensures,
)

pub returns-in-Phoenix : goal.returns-in-Phoenix
unfolding paper_table
returns-in-Phoenix c =
    c.store.ensures
    ∙ ap₂ (λ (t u : Table). values_with video_row t.phoenix.fresh u.fresh) c.the_table-in-Phoenix.ensures c.the_table.ensures
    ∙ phoenix_fresh ∙ ap fresh_values (sym c.in-Phoenix.is)

pub returns-in_default : goal.returns-in_default
unfolding paper_table
returns-in_default c = ap (λ (t : Table). t.fresh) c.the_table.ensures ∙ ap fresh_values (sym (is_general c.args.profile c.in_default.not-Phoenix))
