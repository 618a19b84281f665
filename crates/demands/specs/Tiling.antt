-- Where a panel sits in the wall, in the paper's numbers: set 0x22, get 0x23, walls up to 5 by 5 and up to 15 wide and 10 high.
-- 002, 8.6; 02, A6. A panel's values begin with its kind, its power, and enable, frame compensation, position and wall.
use Rattle.std.specs.Prelude.{ℕ, ◌+◌, ◌-◌, ◌*◌, ◌/◌, ◌%◌, ◌<◌, Bool, true, cond, ◌&&◌, ◌≡◌, [], ◌∷◌, leb, eqb, length, get_or, take, drop, Some}
use Rattle.tiling.specs.Walls.{byte_of, height_of, width_of, up_to}
use Rattle.tiling.specs.Kinds.{kind_number}
use Rattle.models.specs.declared.Model.{Model}
use Rattle.settings.specs.Settings.{tiling_row}
use Rattle.packet.specs.declared.MonitorId.{MonitorId}
use Rattle.packet.specs.declared.Control.{Control}
use Rattle.packet.specs.declared.Verdict.{Verdict}
use Rattle.packet.specs.Packet.{group_id}
use Rattle.packet.specs.Reading.{Reading}
use Rattle.panels.specs.declared.Table.{Table}
use Rattle.panels.specs.Wall.{blank, place_of, panels_of}
use Rattle.panels.specs.WellFormed.{WellFormed}
use Rattle.answers.specs.Reply.{word_from}
use Rattle.answers.specs.Played.{answered}
use Rattle.requests.specs.Request.{may_set}
use Rattle.requests.specs.Said.{is_report}
use Rattle.demands.specs.Demand2.{Comes}

-- For any widest and highest wall, a height and a width are what their byte says,
abbrev pub WallBack : Type 0
WallBack =
    (widest highest v h : ℕ) → up_to highest v ≡ true → up_to widest h ≡ true
    → let byte = byte_of widest v h in
    (up_to (widest * highest) byte ≡ true) × (height_of widest byte ≡ v) × (width_of widest byte ≡ h)

-- and exactly the bytes from 1 to their product say a height and a width.
abbrev pub ByteBack : Type 0
ByteBack =
    (widest highest byte : ℕ) → up_to (widest * highest) byte ≡ true
    → (up_to highest (height_of widest byte) ≡ true) × (up_to widest (width_of widest byte) ≡ true)
    × (byte_of widest (height_of widest byte) (width_of widest byte) ≡ byte)

-- The manual's way back, H = MOD(byte, widest) and V = INT(byte, widest) + 1, is wrong of the widest wall: of 15 wide and 1 high it
-- makes 0 wide and 2 high.
abbrev pub ManualWrong : Type 0
ManualWrong =
    let byte = byte_of 15 1 15 in
    (byte % 15 ≡ 0) × (byte / 15 + 1 ≡ 2) × (width_of 15 byte ≡ 15) × (height_of 15 byte ≡ 1)

-- a position of a wall of the kind with this number: the wall's byte from 1 to 25 or 150, the position from 1 to V times H
unfoldable pub sits : ℕ → ℕ → ℕ → Bool
sits kind position byte =
    let widest : ℕ = cond (eqb kind 0) 5 15 in
    up_to (cond (eqb kind 0) 25 150) byte && up_to (((byte - 1) / widest + 1) * ((byte - 1) % widest + 1)) position

-- A panel that is there answers the set of its tiling with ACK where, with the wall that it will then have, the position is one of
-- the wall, the wall one of its kind, and enable and frame compensation 0 or 1, and has then just these values; else with NAV, and
-- its tiling is as it was. Byte 0 leaves it the wall that it has.
abbrev pub TilingSet : Type 0
TilingSet =
    (t : Table) → WellFormed t → (i : MonitorId) (k enable frame position byte n : ℕ) → place_of i (panels_of t) ≡ Some k
    → (r : Reading) → r.verdict ≡ Verdict.Intact i (group_id 0) n → r.part ≡ 0x22 ∷ enable ∷ frame ∷ position ∷ byte ∷ []
    → let values = (get_or (panels_of t) k blank).values in
    let wall = cond (eqb byte 0) (get_or values 5 0) byte in
    let good = leb enable 1 && (leb frame 1 && sits (get_or values 0 0) position wall) in
    let o = answered (panels_of t) r in
    (o.reply ≡ word_from i (cond good Control.Ack Control.Nav))
    × (take 4 (drop 2 (get_or o.wall k blank).values) ≡ cond good (enable ∷ frame ∷ position ∷ wall ∷ []) (take 4 (drop 2 values)))

-- At all times each panel's kind is 0 or 1, and its position one of its wall.
abbrev pub AlwaysSits : Type 0
AlwaysSits =
    (t : Table) → Comes t → (k : ℕ) → k < length (panels_of t)
    → let values = (get_or (panels_of t) k blank).values in
    (leb (get_or values 0 0) 1 ≡ true) × (sits (get_or values 0 0) (get_or values 4 0) (get_or values 5 0) ≡ true)

-- The host's 22 at byte 0 lets the position run to 25 or 150, and its report is one whose wall is told.
abbrev pub HostTiling : Type 0
HostTiling =
    (model : Model) (enable frame position byte : ℕ)
    → let n = kind_number model.kind in
    (may_set model tiling_row (enable ∷ frame ∷ position ∷ byte ∷ [])
    ≡ (leb enable 1 && (leb frame 1 && cond (eqb byte 0) (up_to (cond (eqb n 0) 25 150) position) (sits n position byte))))
    × (is_report model tiling_row (0x23 ∷ enable ∷ frame ∷ position ∷ byte ∷ []) ≡ (leb enable 1 && (leb frame 1 && sits n position byte)))
