-- The sample wall. 01, "Bursts to try": panels 1 and 2, both in group 9, fresh; both are general, of the 5 by 5 kind.
use Rattle.std.specs.Prelude.{[], ◌∷◌}
use Rattle.settings.specs.declared.Profile.{Profile}
use Rattle.tiling.specs.declared.Kind.{Kind}
use Rattle.packet.specs.Packet.{monitor_id, group_id}
use Rattle.panels.specs.Wall.{Wall, fresh_panel}

unfoldable pub two_panels : Wall
two_panels = fresh_panel (monitor_id 1) (group_id 9) Profile.General Kind.FiveByFive ∷ fresh_panel (monitor_id 2) (group_id 9) Profile.General Kind.FiveByFive ∷ []
