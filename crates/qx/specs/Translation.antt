-- A request translated: its packets one behind the other in a lent output, or why there are none. 02, A13.
use Rattle.std.specs.Prelude.{ℕ, not, cond, length, replicate, ltb, eqb, Result, Ok, Err}
use mathlib.Core.List.{List, [], map, flatten}
use Rattle.lists.specs.Lists.{laid_over}
use Rattle.refusals.specs.Refusals.{no_room}
use Rattle.packet.specs.declared.Edition.{Edition}
use Rattle.packet.specs.Packet.{longest}
use Rattle.requests.specs.declared.Request.{Request}
use Rattle.requests.specs.Request.{is_request}
use Rattle.qx.specs.declared.Refusal.{Refusal}
use Rattle.qx.specs.declared.Packets.{Packets}
use Rattle.qx.specs.Message.{qx_packet}
use Rattle.qx.specs.Asked.{asked_of, data_for}

abbrev pub most_packets : ℕ
most_packets = 3

-- 22 is the host's, for what is no request
abbrev pub refusal_number : Refusal → ℕ
refusal_number Refusal.NoRoom = no_room
refusal_number Refusal.NotARequest = 22
refusal_number Refusal.NotCarried = 34

unfoldable pub packets_for : Request → List (List ℕ)
packets_for r = map (qx_packet r.id) (data_for (asked_of r))

-- how many there are, and their sizes
unfoldable pub packets_told : List (List ℕ) → Packets
packets_told ps = record { count = length ps; sizes = laid_over (map length ps) (replicate most_packets 0) }

-- 34 where there are none
abbrev pub carried_by : List (List ℕ) → Result Packets Refusal
carried_by ps = cond (eqb (length ps) 0) (Err Refusal.NotCarried) (Ok (packets_told ps))

-- for an output with this room: 19, then 22, then 34
unfoldable pub translated : ℕ → Request → Result Packets Refusal
translated room r = cond (ltb room longest) (Err Refusal.NoRoom) (cond (not (is_request Edition.Sicp201 r)) (Err Refusal.NotARequest) (carried_by (packets_for r)))

-- the packets that an output with this room gets
unfoldable pub packets_in : ℕ → Request → List (List ℕ)
packets_in room r = cond (ltb room longest) [] (packets_for r)

unfoldable pub translated_over : List ℕ → Request → List ℕ
translated_over out r = laid_over (flatten (packets_in (length out) r)) out
