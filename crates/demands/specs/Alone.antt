-- A panel's settings and answers depend only on its own record and the bursts. 02, A10; add, remove and image reading between the
-- bursts are excepted.
use Rattle.std.specs.Prelude.{ℕ, ◌<◌, cond, ◌≡◌, List, [], ◌∷◌, map, eqb, length, get_or}
use Rattle.settings.specs.declared.Profile.{Profile}
use Rattle.tiling.specs.declared.Kind.{Kind}
use Rattle.packet.specs.declared.Edition.{Edition}
use Rattle.packet.specs.declared.MonitorId.{MonitorId}
use Rattle.packet.specs.Packet.{monitor_id, group_id, packet_of}
use Rattle.panels.specs.declared.Table.{Table}
use Rattle.panels.specs.Wall.{Wall, blank, fresh_panel, panels_of}
use Rattle.panels.specs.WellFormed.{WellFormed}
use Rattle.answers.specs.declared.Reply.{Reply}
use Rattle.answers.specs.Reply.{silence}
use Rattle.answers.specs.Played.{played}
use Rattle.answers.specs.Session.{session}

-- the answers of the panel with an ID, each in its place, with silence in place of any other
abbrev pub if_from : MonitorId → Reply → Reply
if_from i r = cond (eqb i.0 r.id.0) r silence

abbrev pub answers_from : MonitorId → List Reply → List Reply
answers_from i = map (if_from i)

-- A panel's settings, and the answers that it gives, are those that it would have on a wall of its own.
abbrev pub AsAlone : Type 0
AsAlone =
    (edition : Edition) (t : Table) → WellFormed t → (k : ℕ) → k < length (panels_of t) → (bursts : List (List ℕ))
    → let p = get_or (panels_of t) k blank in
    let e = session edition (panels_of t) bursts in
    let alone = session edition (p ∷ []) bursts in
    (get_or e.wall k blank ≡ get_or alone.wall 0 blank) × (answers_from p.id e.replies ≡ alone.replies)

-- So they are the same on two walls that both have the panel. 02 asks for no more than walls that have the same panels, with the same
-- groups, place by place; `AsAlone` needs nothing of these.
abbrev pub SameNames : Wall → Wall → Type 0
SameNames w v =
    (length w ≡ length v) × ((k : ℕ) → ((get_or w k blank).id ≡ (get_or v k blank).id) × ((get_or w k blank).group ≡ (get_or v k blank).group))

abbrev pub OwnRecord : Type 0
OwnRecord =
    (edition : Edition) (t u : Table) → WellFormed t → WellFormed u → SameNames (panels_of t) (panels_of u)
    → (k : ℕ) → k < length (panels_of t) → get_or (panels_of t) k blank ≡ get_or (panels_of u) k blank → (bursts : List (List ℕ))
    → let i = (get_or (panels_of t) k blank).id in
    let e = session edition (panels_of t) bursts in
    let f = session edition (panels_of u) bursts in
    (get_or e.wall k blank ≡ get_or f.wall k blank) × (answers_from i e.replies ≡ answers_from i f.replies)

-- Its group is in its record: after a set to group 9 a panel of that group has other settings than one of group 8.
abbrev pub grouped : ℕ → Wall
grouped group = fresh_panel (monitor_id 1) (group_id group) Profile.General Kind.FiveByFive ∷ []

abbrev pub OwnGroup : Type 0
OwnGroup =
    let set = packet_of Edition.Sicp201 (monitor_id 0) (group_id 9) (0x61 ∷ 4 ∷ []) in
    (get_or (played Edition.Sicp201 (grouped 9) set).wall 0 blank).values ≡ (get_or (played Edition.Sicp201 (grouped 8) set).wall 0 blank).values → ⊥
