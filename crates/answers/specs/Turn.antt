-- What a burst comes to, by what the table has of the names in it: the panel with the ID, how many are in the group, how many there
-- are. It is how the box goes about it (02, A8); what is right says `answered`, and `answered_on` is that.
use Rattle.std.specs.Prelude.{ℕ, suc, ◌%◌, ◌≤◌, ◌<◌, Bool, cond, ◌&&◌, List, [], ◌∷◌, ◌≡◌, Option, Some, None, eqb, ltb, length, get_or, drop}
use Rattle.std.specs.Option.{option_map}
use Rattle.settings.specs.declared.Profile.{Profile}
use Rattle.settings.specs.Settings.{in_ranges}
use Rattle.packet.specs.declared.Control.{Control}
use Rattle.packet.specs.declared.Edition.{Edition}
use Rattle.packet.specs.declared.GroupId.{GroupId}
use Rattle.packet.specs.declared.MonitorId.{MonitorId}
use Rattle.packet.specs.declared.Verdict.{Verdict}
use Rattle.packet.specs.Packet.{monitor_id, group_id}
use Rattle.packet.specs.Answered.{is_heard}
use Rattle.panels.specs.declared.Panel.{Panel}
use Rattle.panels.specs.Wall.{Wall, blank, in_places, place_of, place_number, members_of, most_panels}
use Rattle.panels.specs.Addressed.{reaches}
use Rattle.answers.specs.declared.Change.{Change}
use Rattle.answers.specs.declared.Entry.{Entry}
use Rattle.answers.specs.declared.Heard.{Heard}
use Rattle.answers.specs.declared.Names.{Names}
use Rattle.answers.specs.declared.Reply.{Reply}
use Rattle.answers.specs.declared.Span.{Span}
use Rattle.answers.specs.declared.Turn.{Turn}
use Rattle.answers.specs.Reply.{silence, word_from, sent_bytes}
use Rattle.answers.specs.Judged.{Command, get_of, set_of, unavailable, command, takes, judge, reply_by}
use Rattle.answers.specs.Played.{turned}

-- For each profile, by its number, whether its ranges allow the values of a set.
abbrev pub allowed_by : ℕ → List ℕ → List Bool
allowed_by row values = in_ranges Profile.General row values ∷ in_ranges Profile.Phoenix row values ∷ []

abbrev pub named : MonitorId → GroupId → Names
named i g = record { id = i; group = g }

-- whom a burst names
abbrev pub names_in : Verdict → Option MonitorId → Names
names_in Verdict.Empty seems = named (monitor_id 0) (group_id 0)
names_in (Verdict.Damaged damage) None = named (monitor_id 0) (group_id 0)
names_in (Verdict.Damaged damage) (Some i) = named i (group_id 0)
names_in (Verdict.Intact i g n) seems = named i g

-- what a table has of them; where no panel has the ID the panel is any
unfoldable pub entry_of : Wall → Names → Entry
entry_of w n =
    let at = place_number (place_of n.id w) in
    record { count = length w; members = members_of n.group w; at = at; panel = get_or (in_places w) (at % most_panels) blank }

abbrev pub from : ℕ → ℕ → Span
from first end = record { first = first; end = end }

-- the places of the panels that a packet can reach, if it can reach any
unfoldable pub span_of : Entry → Names → Option Span
span_of e n =
    cond (eqb n.group.0 0)
    (cond (eqb n.id.0 0) (Some (from 0 e.count)) (cond (ltb e.at most_panels) (Some (from e.at (suc e.at))) None))
    (cond (eqb e.members 0) None (Some (from 0 e.count)))

abbrev pub change_in : Names → ℕ → List ℕ → Span → Change
change_in n row values span = record { names = n; row = row; allowed = allowed_by row values; span = span }

-- what a command changes, if anything
unfoldable pub change_of : Entry → Names → Command → Option Change
change_of e n (get_of row) = None
change_of e n (set_of row values) = option_map (change_in n row values) (span_of e n)
change_of e n unavailable = None

-- the reply to a packet, and to a damaged burst
unfoldable pub reply_to : Entry → Names → Command → Reply
reply_to e n c = cond (is_heard n.id n.group && ltb e.at most_panels) (reply_by e.panel.id (judge c e.panel)) silence

unfoldable pub nack_to : Entry → Option MonitorId → Reply
nack_to e None = silence
nack_to e (Some i) = cond (ltb e.at most_panels) (word_from i Control.Nack) silence

unfoldable pub turn_by : Entry → Verdict → List ℕ → Option MonitorId → Turn
turn_by e Verdict.Empty d seems = record { reply = silence; change = None }
turn_by e (Verdict.Damaged damage) d seems = record { reply = nack_to e seems; change = None }
turn_by e (Verdict.Intact i g n) d seems = record { reply = reply_to e (named i g) (command d); change = change_of e (named i g) (command d) }

-- the same by the panels of a table
abbrev pub turn_on : Wall → Verdict → List ℕ → Option MonitorId → Turn
turn_on w v d seems = turn_by (entry_of w (names_in v seems)) v d seems

-- with the answer sent out on a line of an edition
abbrev pub heard_as : Edition → Turn → Heard
heard_as edition turn = record { sent = length (sent_bytes edition turn.reply); change = turn.change }

-- whether a set is stored in a panel
unfoldable pub is_stored : Names → ℕ → List ℕ → Panel → Bool
is_stored n row values p = reaches n.id n.group p && takes row values p

-- a set, as it turns each panel
abbrev pub turned_by : Change → List ℕ → Panel → Panel
turned_by c d = turned c.names.id c.names.group (set_of c.row (drop 1 d))

-- a change that is one of this wall: outside of its places nothing would be stored
pub record Fits (c : Change) (d : List ℕ) (w : Wall) : Type 0 where
  pub has_code : 0 < length d
  pub judged : c.allowed ≡ allowed_by c.row (drop 1 d)
  pub ordered : c.span.first ≤ c.span.end
  pub inside : c.span.end ≤ length w
  pub before : (k : ℕ) → k < c.span.first → turned_by c d (get_or w k blank) ≡ get_or w k blank
  pub behind : (k : ℕ) → c.span.end ≤ k → k < length w → turned_by c d (get_or w k blank) ≡ get_or w k blank
