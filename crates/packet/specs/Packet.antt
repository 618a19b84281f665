-- A packet, the verdict on a burst, and a packet written out, on a line of either edition. 000, 2.2.1; 001, 2.3; 01, "Packet and
-- burst"; 02, A11.
use Rattle.std.specs.Prelude.{ℕ, ◌+◌, ◌-◌, Bool, not, cond, ◌&&◌, ◌||◌, List, [], ◌∷◌, ◌++◌, length, get_or, take, drop, leb, ltb, eqb, Option, Some, None, Result, Ok, Err}
use Rattle.lists.specs.Lists.{laid_over}
use Rattle.refusals.specs.Refusals.{no_room}
use Rattle.xor.specs.Xor.{xor_all}
use Rattle.packet.specs.Edition.{group_bytes, group_on, head_size}
use Rattle.packet.specs.declared.Edition.{Edition}
use Rattle.packet.specs.declared.MonitorId.{MonitorId}
use Rattle.packet.specs.declared.GroupId.{GroupId}
use Rattle.packet.specs.declared.Damage.{Damage}
use Rattle.packet.specs.declared.Verdict.{Verdict}
use Rattle.packet.specs.declared.WriteError.{WriteError}

abbrev pub monitor_id : ℕ → MonitorId
monitor_id i = record { 0 = i }

abbrev pub group_id : ℕ → GroupId
group_id g = record { 0 = g }

-- a packet without data, which has the checksum behind its head, and the longest; so much data has room in it
abbrev pub shortest : Edition → ℕ
shortest edition = head_size edition + 1

abbrev pub longest : ℕ
longest = 40

abbrev pub most_data : Edition → ℕ
most_data edition = longest - shortest edition

-- A burst goes by its first byte, the count of its bytes and the XOR of all: it is intact with 3 to 40 bytes on 1.85 and 4 to 40 on
-- 2.01, if the first byte equals their count, and the XOR is 0.
abbrev pub intact_by : Edition → ℕ → ℕ → ℕ → Bool
intact_by edition first count sum = leb (shortest edition) count && leb count longest && eqb first count && eqb sum 0

unfoldable pub is_intact : Edition → List ℕ → Bool
is_intact edition burst = intact_by edition (get_or burst 0 0) (length burst) (xor_all burst)

-- What is wrong with a burst that is not intact: the first that holds, in 02's order (A3).
abbrev pub fault_by : Edition → ℕ → ℕ → Damage
fault_by edition first count = cond (ltb count (shortest edition)) Damage.TooShort
    (cond (ltb longest count) Damage.TooLong (cond (not (eqb first count)) Damage.Size Damage.Checksum))

-- An empty burst has no damage, nor has an intact one.
abbrev pub damage_by : Edition → ℕ → ℕ → ℕ → Option Damage
damage_by edition first count sum = cond (eqb count 0 || intact_by edition first count sum) None (Some (fault_by edition first count))

unfoldable pub damage_of : Edition → List ℕ → Option Damage
damage_of edition burst = damage_by edition (get_or burst 0 0) (length burst) (xor_all burst)

-- its number, 0 for none
abbrev pub damage_number : Option Damage → ℕ
damage_number None = 0
damage_number (Some Damage.TooShort) = 1
damage_number (Some Damage.TooLong) = 2
damage_number (Some Damage.Size) = 3
damage_number (Some Damage.Checksum) = 4

-- size, monitor ID, on 2.01 group, data, checksum: of an intact burst the ID, the group and the count of its data bytes; of a damaged
-- one what is wrong. The first three bytes say all of it but the count and the XOR, and a front of so many stands for a burst.
abbrev pub verdict_by : Edition → List ℕ → ℕ → ℕ → Verdict
verdict_by edition front count sum = cond (eqb count 0) Verdict.Empty
    (cond (intact_by edition (get_or front 0 0) count sum) (Verdict.Intact (monitor_id (get_or front 1 0)) (group_id (group_on edition (get_or front 2 0))) (count - shortest edition))
    (Verdict.Damaged (fault_by edition (get_or front 0 0) count)))

unfoldable pub verdict_of : Edition → List ℕ → Verdict
verdict_of edition burst = verdict_by edition burst (length burst) (xor_all burst)

-- the damage that a verdict says
abbrev pub damage_in : Verdict → Option Damage
damage_in Verdict.Empty = None
damage_in (Verdict.Damaged damage) = Some damage
damage_in (Verdict.Intact id group n) = None

-- the bytes from behind the head to the one before the checksum, of an intact burst; otherwise none
unfoldable pub data_of : Edition → List ℕ → List ℕ
data_of edition burst = cond (is_intact edition burst) (take (length burst - shortest edition) (drop (head_size edition) burst)) []

-- a packet written out: size and checksum are computed
unfoldable pub packet_of : Edition → MonitorId → GroupId → List ℕ → List ℕ
packet_of edition id group d = let bytes = (length d + shortest edition) ∷ id.0 ∷ (group_bytes edition group.0 ++ d) in bytes ++ xor_all bytes ∷ []

-- what writing answers: the output has room for any packet, and a packet for the data
unfoldable pub written_of : Edition → List ℕ → List ℕ → Result ℕ WriteError
written_of edition out d = cond (leb longest (length out)) (cond (leb (length d) (most_data edition)) (Ok (length d + shortest edition)) (Err WriteError.TooLong)) (Err WriteError.NoRoom)

-- its number, 0 where the packet is written; data that fits no packet has none
abbrev pub refusal_number : Result ℕ WriteError → Option ℕ
refusal_number (Ok n) = Some 0
refusal_number (Err WriteError.TooLong) = None
refusal_number (Err WriteError.NoRoom) = Some no_room

-- the output after a packet was written, or not
unfoldable pub output_of : Edition → List ℕ → MonitorId → GroupId → List ℕ → List ℕ
output_of edition out id group d = cond (leb longest (length out) && leb (length d) (most_data edition)) (laid_over (packet_of edition id group d) out) out
