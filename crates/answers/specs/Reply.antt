-- An answer is silence, one of three control words, or a report. 01, "Answering a burst"; 02, A11: it goes out in the line's
-- edition.
use Rattle.std.specs.Prelude.{ℕ, ◌+◌, ◌-◌, cond, List, [], ◌++◌, leb, length, take, replicate, Option, Some, None}
use Rattle.settings.specs.Settings.{most_values}
use Rattle.packet.specs.declared.Edition.{Edition}
use Rattle.packet.specs.declared.MonitorId.{MonitorId}
use Rattle.packet.specs.declared.Control.{Control}
use Rattle.packet.specs.Packet.{monitor_id, group_id, packet_of, longest}
use Rattle.lists.specs.Lists.{laid_over}
use Rattle.packet.specs.Control.{control_data}
use Rattle.refusals.specs.Refusals.{no_room}
use Rattle.answers.specs.declared.Answer.{Answer}
use Rattle.answers.specs.declared.Reply.{Reply}

-- a report's data at its longest: the get code, and the values of the largest row
abbrev pub most_reported : ℕ
most_reported = most_values + 1

-- what a reply does not use is 0
abbrev pub silence : Reply
silence = record { answer = Answer.Silence; id = monitor_id 0; bytes = replicate most_reported 0; count = 0 }

abbrev pub word_from : MonitorId → Control → Reply
word_from i c = record { answer = Answer.Word c; id = i; bytes = replicate most_reported 0; count = 0 }

-- a report's data: the get code and then the values
abbrev pub report_from : MonitorId → List ℕ → Reply
report_from i d = record { answer = Answer.Report; id = i; bytes = d ++ replicate (most_reported - length d) 0; count = length d }

-- what goes out: a packet with group 0 and the panel's ID, or nothing
abbrev pub sent_by : Edition → Answer → MonitorId → List ℕ → List ℕ
sent_by edition Answer.Silence i d = []
sent_by edition (Answer.Word c) i d = packet_of edition i (group_id 0) (control_data c)
sent_by edition Answer.Report i d = packet_of edition i (group_id 0) d

unfoldable pub sent_bytes : Edition → Reply → List ℕ
sent_bytes edition r = sent_by edition r.answer r.id (take r.count r.bytes)

-- an answer needs room for any packet
unfoldable pub sent_of : Edition → List ℕ → Reply → Option ℕ
sent_of edition out r = cond (leb longest (length out)) (Some (length (sent_bytes edition r))) None

-- its number, 0 where it is written
abbrev pub refusal_number : Option ℕ → ℕ
refusal_number (Some n) = 0
refusal_number None = no_room

unfoldable pub output_of : Edition → List ℕ → Reply → List ℕ
output_of edition out r = cond (leb longest (length out)) (laid_over (sent_bytes edition r) out) out
