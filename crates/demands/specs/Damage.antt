-- What is wrong with a burst, told beside the answer. 02, A3 and A11.
use Rattle.packet.specs.declared.MonitorId.{MonitorId}
use Rattle.std.specs.Prelude.{ℕ, true, cond, not, ◌&&◌, ◌||◌, ◌≡◌, leb, eqb, length, get_or, Option, Some, None}
use mathlib.Core.List.{List, [], foldl}
use Rattle.packet.specs.declared.Edition.{Edition}
use Rattle.packet.specs.declared.Damage.{Damage}
use Rattle.xor.specs.Xor.{xor_all}
use Rattle.packet.specs.Packet.{monitor_id, group_id, is_intact, damage_of, damage_in, damage_number}
use Rattle.packet.specs.Reading.{reading_of}
use Rattle.packet.specs.Spoiled.{Spoiling, spoiled, Spoils}
use Rattle.panels.specs.declared.Table.{Table}
use Rattle.panels.specs.Wall.{Wall, panels_of, table_of}
use Rattle.answers.specs.Reply.{silence}
use Rattle.answers.specs.Judged.{command}
use Rattle.answers.specs.Played.{Outcome, played_packet, nack_from, answered}
use Rattle.line.specs.Receiver.{receiver_of, with_byte, at_mark}
use Rattle.host.specs.Machine.{burst, State, telling, step}
use Rattle.demands.specs.HostMoves.{data_in, heard_by}

-- what is told of a burst
abbrev pub told : Edition → List ℕ → Option Damage
told edition b = damage_in (reading_of edition b).verdict

-- It is the first that holds of those that a burst can have.
abbrev pub Told : Type 0
Told = (edition : Edition) (b : List ℕ) → told edition b ≡ damage_of edition b

-- the longest burst that is too short
abbrev pub most_too_short : Edition → ℕ
most_too_short Edition.Sicp185 = 2
most_too_short Edition.Sicp201 = 3

-- 1 to 3 bytes, on 1.85 1 to 2, are 1, over 40 are 2, a size that differs from the count is 3, a wrong checksum is 4: the first that
-- holds. Else 0,
abbrev pub Kinds : Type 0
Kinds =
    (edition : Edition) (b : List ℕ)
    → damage_number (told edition b)
    ≡ cond (eqb (length b) 0) 0
    (cond (leb (length b) (most_too_short edition)) 1 (cond (leb 41 (length b)) 2 (cond (not (eqb (get_or b 0 0) (length b))) 3 (cond (eqb (xor_all b) 0) 0 4))))

-- which is for an empty and for an intact burst alone,
abbrev pub NoDamage : Type 0
NoDamage = (edition : Edition) (b : List ℕ) → eqb (damage_number (told edition b)) 0 ≡ (eqb (length b) 0 || is_intact edition b)

-- and never for a packet that was spoiled by one byte.
abbrev pub SpoiledTold : Type 0
SpoiledTold =
    (edition : Edition) (packet : List ℕ) (s : Spoiling) → is_intact edition packet ≡ true → Spoils s packet → told edition (spoiled s packet) ≡ None → ⊥

-- The receiver, which keeps 40 bytes, leaves of a burst of any length, byte after byte and then the mark, what the whole burst does,
-- and tells what is wrong with it.
abbrev pub AnyLength : Type 0
AnyLength =
    (edition : Edition) (t : Table) (b : List ℕ)
    → let o = answered (panels_of t) (reading_of edition b) in
    at_mark (foldl with_byte (receiver_of edition []) b) t
    ≡ record { receiver = receiver_of edition []; table = table_of o.wall; reply = o.reply; damage = told edition b }

-- a packet: on 1.85 group 0 is meant
abbrev pub packet_in : Edition → Wall → List ℕ → Outcome
packet_in Edition.Sicp185 w b = played_packet w (monitor_id (get_or b 1 0)) (group_id 0) (command (data_in Edition.Sicp185 b))
packet_in Edition.Sicp201 w b = played_packet w (monitor_id (get_or b 1 0)) (group_id (get_or b 2 0)) (command (data_in Edition.Sicp201 b))

-- whom a NACK is from: the burst has 2 bytes, or on 2.01 3 of which the third is 0; the second is the ID
abbrev pub nacked_by : Edition → List ℕ → Option MonitorId
nacked_by Edition.Sicp185 b = cond (leb 2 (length b)) (Some (monitor_id (get_or b 1 0))) None
nacked_by Edition.Sicp201 b = cond (leb 3 (length b) && eqb (get_or b 2 0) 0) (Some (monitor_id (get_or b 1 0))) None

-- The wall and the answer without this request, by 01: an empty burst does nothing, an intact one is a packet, and any other gets
-- NACK or silence.
abbrev pub before : Edition → Wall → List ℕ → Outcome
before edition w b =
    cond (eqb (length b) 0)
    (record { wall = w; reply = silence })
    (cond (is_intact edition b) (packet_in edition w b) (record { wall = w; reply = nack_from w (nacked_by edition b) }))

-- What goes out on the line is unchanged,
abbrev pub Unchanged : Type 0
Unchanged = (edition : Edition) (w : Wall) (b : List ℕ) → answered w (reading_of edition b) ≡ before edition w b

-- and the host's move is what it is by 01, with what is wrong with the burst beside it, whatever the host waits for.
abbrev pub HostUnchanged : Type 0
HostUnchanged = (s : State) (b : List ℕ) → step s (burst b) ≡ telling (told s.edition b) (heard_by s b)
