use mathlib.Core.Path.{ap, ◌∙◌}
use native.Mathlib.Omega.{arith}
use lib.ListN.{get_or}
use Rattle.panels.specs.Wall.{Wall}
use Rattle.panels.proofs.Laws.{place_is, held_places}
use Rattle.panels.proofs.panel_at.Goals as goal

pub returns : goal.returns
returns c =
    ap (λ (l : Wall). get_or l c.args.k _) (held_places c.requires) ∙ place_is _ _ _ (omega arith)
