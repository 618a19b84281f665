-- 01, "Bursts to try", the cases marked P, and those of a 1.85 line (02, A11): panels 1 and 2, both in group 9, fresh before each line.
use Rattle.std.specs.Prelude.{ℕ, List, [], ◌∷◌}
use Rattle.settings.specs.declared.Profile.{Profile}
use Rattle.tiling.specs.declared.Kind.{Kind}
use Rattle.packet.specs.declared.Edition.{Edition}
use Rattle.packet.specs.Packet.{monitor_id, group_id}
use Rattle.panels.specs.declared.Panel.{Panel}
use Rattle.panels.specs.Wall.{Wall, fresh_panel}
use Rattle.answers.specs.Sample.{two_panels}
use Rattle.answers.specs.Reply.{sent_bytes}
use Rattle.answers.specs.Judged.{stored}
use Rattle.answers.specs.Played.{played}

-- a fresh panel whose fan is v; the fan is row 6
abbrev pub fan_at : ℕ → ℕ → Panel
fan_at i v = stored 6 (v ∷ []) (fresh_panel (monitor_id i) (group_id 9) Profile.General Kind.FiveByFive)

-- a burst, the bytes of its answer, and the wall after it
pub record Case : Type 0 where
  pub burst : List ℕ
  pub answer : List ℕ
  pub wall : Wall

abbrev pub tried : Edition → List ℕ → Case
tried edition b = let o = played edition two_panels b in record { burst = b; answer = sent_bytes edition o.reply; wall = o.wall }

abbrev pub case : List ℕ → List ℕ → Wall → Case
case b a w = record { burst = b; answer = a; wall = w }

-- On 1.85: a get of power, and the same with a group byte, which is data there; a set to panel 1, with ACK and with NAV, and to all;
-- a packet without data; a wrong checksum; 2 bytes, and 1; a panel that is not there.
unfoldable pub cases : Edition → List Case
cases Edition.Sicp185 =
    case (0x04 ∷ 0x01 ∷ 0x19 ∷ 0x1C ∷ []) (0x05 ∷ 0x01 ∷ 0x19 ∷ 0x02 ∷ 0x1F ∷ []) two_panels
    ∷ case (0x05 ∷ 0x01 ∷ 0x00 ∷ 0x19 ∷ 0x1D ∷ []) (0x05 ∷ 0x01 ∷ 0x00 ∷ 0x18 ∷ 0x1C ∷ []) two_panels
    ∷ case (0x05 ∷ 0x01 ∷ 0x61 ∷ 0x04 ∷ 0x61 ∷ []) (0x05 ∷ 0x01 ∷ 0x00 ∷ 0x06 ∷ 0x02 ∷ []) (fan_at 1 4 ∷ fan_at 2 1 ∷ [])
    ∷ case (0x05 ∷ 0x01 ∷ 0x61 ∷ 0x05 ∷ 0x60 ∷ []) (0x05 ∷ 0x01 ∷ 0x00 ∷ 0x18 ∷ 0x1C ∷ []) two_panels
    ∷ case (0x05 ∷ 0x00 ∷ 0x61 ∷ 0x02 ∷ 0x66 ∷ []) [] (fan_at 1 2 ∷ fan_at 2 2 ∷ [])
    ∷ case (0x03 ∷ 0x01 ∷ 0x02 ∷ []) (0x05 ∷ 0x01 ∷ 0x00 ∷ 0x18 ∷ 0x1C ∷ []) two_panels
    ∷ case (0x04 ∷ 0x01 ∷ 0x19 ∷ 0x1D ∷ []) (0x05 ∷ 0x01 ∷ 0x00 ∷ 0x15 ∷ 0x11 ∷ []) two_panels
    ∷ case (0x05 ∷ 0x01 ∷ []) (0x05 ∷ 0x01 ∷ 0x00 ∷ 0x15 ∷ 0x11 ∷ []) two_panels
    ∷ case (0x05 ∷ []) [] two_panels
    ∷ case (0x04 ∷ 0x03 ∷ 0x19 ∷ 0x1E ∷ []) [] two_panels
    ∷ []
cases Edition.Sicp201 =
    case (0x05 ∷ 0x01 ∷ 0x00 ∷ 0x19 ∷ 0x1D ∷ []) (0x06 ∷ 0x01 ∷ 0x00 ∷ 0x19 ∷ 0x02 ∷ 0x1C ∷ []) two_panels
    ∷ case (0x05 ∷ 0x01 ∷ 0x00 ∷ 0x19 ∷ 0x1C ∷ []) (0x06 ∷ 0x01 ∷ 0x00 ∷ 0x00 ∷ 0x15 ∷ 0x12 ∷ []) two_panels
    ∷ case (0x04 ∷ 0x01 ∷ 0x19 ∷ 0x1C ∷ []) [] two_panels
    ∷ case (0x06 ∷ 0x01 ∷ 0x00 ∷ 0x61 ∷ 0x04 ∷ 0x62 ∷ []) (0x06 ∷ 0x01 ∷ 0x00 ∷ 0x00 ∷ 0x06 ∷ 0x01 ∷ []) (fan_at 1 4 ∷ fan_at 2 1 ∷ [])
    ∷ case (0x06 ∷ 0x01 ∷ 0x00 ∷ 0x61 ∷ 0x05 ∷ 0x63 ∷ []) (0x06 ∷ 0x01 ∷ 0x00 ∷ 0x00 ∷ 0x18 ∷ 0x1F ∷ []) two_panels
    ∷ case (0x06 ∷ 0x00 ∷ 0x09 ∷ 0x61 ∷ 0x02 ∷ 0x6C ∷ []) [] (fan_at 1 2 ∷ fan_at 2 2 ∷ [])
    ∷ case (0x06 ∷ 0x01 ∷ 0xFF ∷ 0x61 ∷ 0x02 ∷ 0x9B ∷ []) [] two_panels
    ∷ case (0x03 ∷ 0x01 ∷ 0x00 ∷ []) (0x06 ∷ 0x01 ∷ 0x00 ∷ 0x00 ∷ 0x15 ∷ 0x12 ∷ []) two_panels
    ∷ case (0x05 ∷ 0x03 ∷ 0x00 ∷ 0x19 ∷ 0x1F ∷ []) [] two_panels
    ∷ case (0x04 ∷ 0x01 ∷ 0x00 ∷ 0x05 ∷ []) (0x06 ∷ 0x01 ∷ 0x00 ∷ 0x00 ∷ 0x18 ∷ 0x1F ∷ []) two_panels
    ∷ []
