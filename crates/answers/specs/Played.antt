-- The outcome of a burst. 01, "Answering a burst, in this order".
use Rattle.std.specs.Prelude.{ℕ, cond, List, map, get_or, Option, Some, None, is_some}
use Rattle.packet.specs.declared.Edition.{Edition}
use Rattle.packet.specs.declared.MonitorId.{MonitorId}
use Rattle.packet.specs.declared.GroupId.{GroupId}
use Rattle.packet.specs.declared.Verdict.{Verdict}
use Rattle.packet.specs.declared.Control.{Control}
use Rattle.packet.specs.Packet.{damage_in}
use Rattle.packet.specs.Reading.{Reading, reading_of}
use Rattle.panels.specs.declared.Panel.{Panel}
use Rattle.panels.specs.declared.Table.{Table}
use Rattle.panels.specs.Wall.{Wall, blank, table_of, panels_of, place_of}
use Rattle.packet.specs.Answered.{is_heard}
use Rattle.panels.specs.Addressed.{reaches}
use Rattle.answers.specs.declared.Reply.{Reply}
use Rattle.answers.specs.declared.Played.{Played}
use Rattle.answers.specs.Reply.{silence, word_from}
use Rattle.answers.specs.Judged.{Command, command, judge, panel_after, reply_by}

pub record Outcome : Type 0 where
  pub wall : Wall
  pub reply : Reply

-- each panel that is addressed becomes what its own judgement says, the others stay
unfoldable pub turned : MonitorId → GroupId → Command → Panel → Panel
turned i g c p = cond (reaches i g p) (panel_after (judge c p) p) p

-- silence where no panel has the ID, else what that panel's judgement says
abbrev pub reply_from : Wall → MonitorId → Command → Option ℕ → Reply
reply_from w i c None = silence
reply_from w i c (Some k) = reply_by i (judge c (get_or w k blank))

abbrev pub played_packet : Wall → MonitorId → GroupId → Command → Outcome
played_packet w i g c = record { wall = map (turned i g c) w; reply = cond (is_heard i g) (reply_from w i c (place_of i w)) silence }

-- NACK if the ID that a damaged burst seems to be for is a panel's
abbrev pub nack_from : Wall → Option MonitorId → Reply
nack_from w None = silence
nack_from w (Some i) = cond (is_some (place_of i w)) (word_from i Control.Nack) silence

abbrev pub answered_by : Verdict → Wall → List ℕ → Option MonitorId → Outcome
answered_by Verdict.Empty w d seems = record { wall = w; reply = silence }
answered_by (Verdict.Damaged damage) w d seems = record { wall = w; reply = nack_from w seems }
answered_by (Verdict.Intact i g n) w d seems = played_packet w i g (command d)

-- what was read of a burst is all that counts
unfoldable pub answered : Wall → Reading → Outcome
answered w r = answered_by r.verdict w r.part r.seems

abbrev pub played : Edition → Wall → List ℕ → Outcome
played edition w burst = answered w (reading_of edition burst)

-- the same of a table; and what is wrong with the burst, which is a fact about the burst alone (02, A3)
abbrev pub answered_on : Table → Reading → Played
answered_on t r = let o = answered (panels_of t) r in record { table = table_of o.wall; reply = o.reply; damage = damage_in r.verdict }
