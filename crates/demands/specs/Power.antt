-- Power off and on, in the paper's numbers: set 0x18, 1 off, 2 on. 02, A5. A panel's values begin with its kind and its power.
use Rattle.std.specs.Prelude.{ℕ, ◌<◌, cond, ◌&&◌, ◌||◌, ◌≡◌, List, [], ◌∷◌, leb, eqb, length, get_or, Some}
use Rattle.lists.specs.Lists.{same}
use Rattle.packet.specs.declared.MonitorId.{MonitorId}
use Rattle.packet.specs.declared.GroupId.{GroupId}
use Rattle.packet.specs.declared.Control.{Control}
use Rattle.packet.specs.declared.Verdict.{Verdict}
use Rattle.packet.specs.Packet.{group_id}
use Rattle.packet.specs.Reading.{Reading}
use Rattle.panels.specs.declared.Table.{Table}
use Rattle.panels.specs.Wall.{Wall, blank, place_of, panels_of}
use Rattle.panels.specs.WellFormed.{WellFormed}
use Rattle.answers.specs.Reply.{word_from}
use Rattle.answers.specs.Played.{answered}
use Rattle.requests.specs.declared.Said.{Said}
use Rattle.requests.specs.Request.{request_data}
use Rattle.host.specs.declared.End.{End}
use Rattle.host.specs.Machine.{State, sendings, over, ending}

-- A panel that is there answers the set of power with ACK: on always, and off while it is on. Every other value, and off while it
-- is off, is NAV.
abbrev pub PowerSet : Type 0
PowerSet =
    (t : Table) → WellFormed t → (i : MonitorId) (k v n : ℕ) → place_of i (panels_of t) ≡ Some k
    → (r : Reading) → r.verdict ≡ Verdict.Intact i (group_id 0) n → r.part ≡ 0x18 ∷ v ∷ []
    → let power = get_or (get_or (panels_of t) k blank).values 1 0 in
    (answered (panels_of t) r).reply ≡ word_from i (cond (eqb v 2 || eqb v 1 && eqb power 2) Control.Ack Control.Nav)

-- Power off, to one panel, a group or all, leaves each panel that is off as it is.
abbrev pub OffStays : Type 0
OffStays =
    (w : Wall) (r : Reading) (i : MonitorId) (g : GroupId) (n : ℕ) → r.verdict ≡ Verdict.Intact i g n → r.part ≡ 0x18 ∷ 1 ∷ []
    → (k : ℕ) → k < length w → get_or (get_or w k blank).values 1 0 ≡ 1 → get_or (answered w r).wall k blank ≡ get_or w k blank

-- NAV ends a request; "off or refused" is for a power off alone, and only where it was sent twice or three times.
abbrev pub NavEnds : Type 0
NavEnds =
    (s : State) (d : List ℕ)
    → let n = sendings s in
    ending s d (Some Said.Nav)
    ≡ over s [] (cond (same (request_data s.request) (0x18 ∷ 1 ∷ []) && leb 2 n) End.OffOrRefused End.Nav) []
