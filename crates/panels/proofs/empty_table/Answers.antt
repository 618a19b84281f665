use mathlib.Core.Path.{refl, ap, ◌∙◌}
use mathlib.Core.List.{[]}
use lib.ListN.{replicate}
use Rattle.panels.specs.declared.Panel.{Panel}
use Rattle.panels.specs.Wall.{most_panels}
use Rattle.panels.proofs.Laws.{none-held}
use Rattle.panels.proofs.Index.{no_places, no_members, table_is}
use Rattle.panels.proofs.empty_table.Goals as goal

pub returns : goal.returns
returns c =
    table_is _ [] (ap (λ (p : Panel). replicate most_panels p) c.blank_panel-p.ensures ∙ none-held) refl (no_places [] 0 refl) (no_members [] 0 refl)
