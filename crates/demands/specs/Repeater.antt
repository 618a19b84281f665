-- The small repeater: its receiver keeps the first 12 bytes of a burst, the count and a running XOR, and nobody can tell its line from
-- that of the first receiver. 02, A14.
use Rattle.std.specs.Prelude.{ℕ, ◌-◌, ◌≤◌, min, ◌≡◌, length, take, replicate}
use mathlib.Core.List.{List, [], ◌∷◌, ◌++◌, foldl}
use Rattle.xor.specs.Xor.{xor_all}
use Rattle.packet.specs.declared.Control.{Control}
use Rattle.packet.specs.declared.Edition.{Edition}
use Rattle.packet.specs.declared.GroupId.{GroupId}
use Rattle.packet.specs.declared.MonitorId.{MonitorId}
use Rattle.packet.specs.Packet.{monitor_id, packet_of}
use Rattle.panels.specs.declared.Panel.{Panel}
use Rattle.panels.specs.declared.Table.{Table}
use Rattle.panels.specs.Wall.{Wall}
use Rattle.answers.specs.declared.Reply.{Reply}
use Rattle.answers.specs.Reply.{word_from}
use Rattle.answers.specs.Judged.{command, judge, not_available}
use Rattle.answers.specs.Session.{session}
use Rattle.answers.specs.Sample.{two_panels}
use Rattle.line.specs.Receiver.{Event, bursts_after, receiver_of, with_byte as first_with_byte, at_mark as first_at_mark, streamed as first_streamed}
use Rattle.small_receiver.specs.Small.{keeping, small_of, with_byte, at_mark, streamed}
use Rattle.demands.specs.Demand3.{SilenceOrNack, Withstands, on_line}

-- After any bytes it has these three and nothing else; it counts to 41.
abbrev pub KeepsTwelve : Type 0
KeepsTwelve = (b : List ℕ) → foldl with_byte (small_of []) b ≡ record { bytes = take 12 b ++ replicate (12 - length b) 0; count = min (length b) 41; sum = xor_all b }

-- A burst of any length, byte after byte and then the mark, leaves on every table what it leaves through the first one: the answer, the
-- damage and the table; and both are then as they were opened.
abbrev pub SameAtMark : Type 0
SameAtMark =
    (b : List ℕ) (t : Table)
    → let small = at_mark (foldl with_byte (small_of []) b) t in
    let first = first_at_mark (foldl first_with_byte (receiver_of Edition.Sicp201 []) b) t in
    (small.reply ≡ first.reply) × (small.damage ≡ first.damage) × (small.table ≡ first.table)
    × (small.receiver ≡ small_of []) × (first.receiver ≡ receiver_of Edition.Sicp201 [])

-- So is it over bytes and quiet marks, as many as come: what demand 2 says of a session on a 2.01 line holds of the repeater's,
abbrev pub SameOnLine : Type 0
SameOnLine =
    (w : Wall) (events : List Event)
    → (streamed (small_of []) w events ≡ first_streamed (receiver_of Edition.Sicp201 []) w events)
    × (streamed (small_of []) w events ≡ session Edition.Sicp201 w (bursts_after [] events))

-- and so does demand 3.
abbrev pub Demand3-repeater : Type 0
Demand3-repeater = Withstands Edition.Sicp201 SilenceOrNack (λ w bursts. streamed (small_of []) w (on_line bursts))

-- No command of ours needs more than 12: of a longer packet no panel makes anything but NAV.
abbrev pub NoLonger : Type 0
NoLonger =
    (i : MonitorId) (g : GroupId) (d : List ℕ) (p : Panel) → (judge (command d) p ≡ not_available → ⊥)
    → length (packet_of Edition.Sicp201 i g d) ≤ 12

-- A set of video has as many, and is taken. With one byte more behind its values it is NAV, but a repeater that keeps 11 bytes takes it
-- for a set of video.
abbrev pub video : List ℕ
video = 0x0C ∷ 0x01 ∷ 0x00 ∷ 0x32 ∷ 10 ∷ 20 ∷ 30 ∷ 40 ∷ 50 ∷ 60 ∷ 3 ∷ 0x1A ∷ []

abbrev pub video_and_more : List ℕ
video_and_more = 0x0D ∷ 0x01 ∷ 0x00 ∷ 0x32 ∷ 10 ∷ 20 ∷ 30 ∷ 40 ∷ 50 ∷ 60 ∷ 3 ∷ 0 ∷ 0x1B ∷ []

-- what the sample wall answers to both, through a receiver with room for n bytes
abbrev pub answers_by : ℕ → List Reply
answers_by n = (streamed (keeping n []) two_panels (on_line (video ∷ video_and_more ∷ []))).replies

abbrev pub ElevenTooFew : Type 0
ElevenTooFew =
    let panel = monitor_id 1 in
    (answers_by 12 ≡ word_from panel Control.Ack ∷ word_from panel Control.Nav ∷ [])
    × (answers_by 11 ≡ word_from panel Control.Ack ∷ word_from panel Control.Ack ∷ [])
