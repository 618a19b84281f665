-- 000, 2.2.1; 01, "Who is addressed".
use Rattle.std.specs.Prelude.{Bool, cond, not, ◌&&◌, ◌||◌, eqb}
use Rattle.packet.specs.declared.MonitorId.{MonitorId}
use Rattle.packet.specs.declared.GroupId.{GroupId}
use Rattle.panels.specs.declared.Panel.{Panel}

-- group 0: ID 0 addresses all, any other the panel with that ID; group 1 to 254: those in it; 255: none
unfoldable pub reaches : MonitorId → GroupId → Panel → Bool
reaches i g p = cond (eqb g.0 0) (eqb i.0 0 || eqb p.id.0 i.0)
    (not (eqb g.0 255) && eqb p.group.0 g.0)
