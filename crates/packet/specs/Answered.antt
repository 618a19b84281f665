-- Whether a packet is answered. 000, 2.2.1; 01, "Who is addressed".
use Rattle.std.specs.Prelude.{Bool, not, ◌&&◌, eqb}
use Rattle.packet.specs.declared.MonitorId.{MonitorId}
use Rattle.packet.specs.declared.GroupId.{GroupId}

-- an answer is due: group 0 and an ID from 1 to 255
unfoldable pub is_heard : MonitorId → GroupId → Bool
is_heard i g = eqb g.0 0 && not (eqb i.0 0)
