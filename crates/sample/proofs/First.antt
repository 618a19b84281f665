-- The first panel of the programs' walls: panel 1, general and of the 5 by 5 kind, in group 9. Assumes nothing.
use mathlib.Core.Path.{◌≡◌, refl, sym, ap, subst, ◌∙◌}
use mathlib.Core.List.{[], ◌∷◌}
use Rattle.std.specs.Prelude.{Result}
use Rattle.settings.specs.declared.Profile.{Profile}
use Rattle.settings.specs.Profiles.{profile_with}
use Rattle.tiling.specs.declared.Kind.{Kind}
use Rattle.tiling.specs.Kinds.{kind_with}
use Rattle.packet.specs.Packet.{monitor_id, group_id}
use Rattle.panels.specs.declared.Table.{Table}
use Rattle.panels.specs.Wall.{Wall, fresh_panel, table_of, panels_of, place_from}
use Rattle.panels.specs.WellFormed.{WellFormed}
use Rattle.panels.proofs.Laws.{panels_of_table}
use Rattle.panels.proofs.Formed.{empty_formed}
use Rattle.table_calls.specs.declared.Refusal.{Refusal}
use Rattle.table_calls.specs.Calls.{unless, add_refusal, added}
use Rattle.table_calls.proofs.Formed.{Adds, adds}

abbrev pub first : Wall
first = fresh_panel (monitor_id 1) (group_id 9) Profile.General Kind.FiveByFive ∷ []

pub one : {r : Result Unit Refusal} {t u : Table} → t ≡ table_of [] → r ≡ unless (add_refusal (panels_of t) (monitor_id 1) (group_id 9) 0 0) tt
    → u ≡ table_of (added (panels_of t) (monitor_id 1) (group_id 9) 0 0) → Adds r u first
unfolding added add_refusal place_from profile_with kind_with
one e answer table =
    adds (monitor_id 1) (group_id 9) 0 0 (subst WellFormed (sym e) empty_formed) (ap panels_of e ∙ panels_of_table []) refl refl answer table
