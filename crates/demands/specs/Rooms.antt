-- Two rooms on one line: in what order they must send. 02, A10. All of it is said of bursts; add, remove and image reading between
-- them are excepted, of which `AddExcepted` is an example. What one code sets is one setting, so that tiling is one.
use Rattle.std.specs.Prelude.{ℕ, ◌<◌, Bool, false, cond, not, ◌&&◌, ◌||◌, ◌≡◌, eqb, length, get_or, Some}
use mathlib.Core.List.{List, [], ◌∷◌, ◌++◌, map, Memᴰ}
use Rattle.codes.specs.declared.Code.{Code}
use Rattle.codes.specs.Found.{found_by}
use Rattle.packet.specs.declared.Edition.{Edition}
use Rattle.packet.specs.declared.MonitorId.{MonitorId}
use Rattle.packet.specs.declared.GroupId.{GroupId}
use Rattle.packet.specs.declared.Verdict.{Verdict}
use Rattle.packet.specs.Packet.{monitor_id, group_id, packet_of}
use Rattle.packet.specs.Reading.{Reading, reading_of}
use Rattle.panels.specs.declared.Panel.{Panel}
use Rattle.panels.specs.declared.Table.{Table}
use Rattle.panels.specs.Wall.{Wall, blank, panels_of}
use Rattle.panels.specs.WellFormed.{WellFormed}
use Rattle.table_calls.specs.Calls.{added}
use Rattle.answers.specs.Judged.{Command, get_of, set_of, unavailable, command}
use Rattle.answers.specs.Played.{played}
use Rattle.answers.specs.Session.{session}
use Rattle.answers.specs.Sample.{two_panels}
use Rattle.demands.specs.Apart.{addressed_by, shared, Apart}

-- Two bursts leave the same wall, and so the same table, in either order, and each gets the same answer.
abbrev pub EitherOrder : Edition → Wall → List ℕ → List ℕ → Type 0
EitherOrder edition w b c =
    let b-first = played edition w b in
    let c-first = played edition w c in
    let b_then = played edition c-first.wall b in
    let c-then = played edition b-first.wall c in
    (c-then.wall ≡ b_then.wall) × (b-first.reply ≡ b_then.reply) × (c-first.reply ≡ c-then.reply)

-- so it is on every table and on a line of either edition, for two bursts of which this holds:
abbrev pub EitherOrderIf : (Edition → Wall → List ℕ → List ℕ → Type 0) → Type 0
EitherOrderIf Holds =
    (edition : Edition) (t : Table) → WellFormed t → (b c : List ℕ) → Holds edition (panels_of t) b c → EitherOrder edition (panels_of t) b c

-- 02, A10, first: no panel is addressed by both.
abbrev pub NoneInCommon : Type 0
NoneInCommon = EitherOrderIf Apart

-- Second: they are sets with different codes, to the same panels or to any. A set is an intact packet with a set code in front.
abbrev pub SetWith : Edition → ℕ → List ℕ → Type 0
SetWith edition code b =
    let r = reading_of edition b in
    (i : MonitorId) × (g : GroupId) × (n : ℕ) × (row : ℕ) × (values : List ℕ)
    × (r.verdict ≡ Verdict.Intact i g n) × (r.part ≡ code ∷ values) × (found_by code ≡ Some (Code.Set row))

abbrev pub OtherCodes : Type 0
OtherCodes = EitherOrderIf (λ edition w b c. (code : ℕ) × (other : ℕ) × (code ≡ other → ⊥) × SetWith edition code b × SetWith edition other c)

-- What both come from, with gets in it: at no panel that both address does one set what the other sets or asks for.
abbrev pub names : Command → ℕ → Bool
names (set_of row values) other = eqb row other
names (get_of row) other = eqb row other
names unavailable other = false

abbrev pub sets_named : Command → Command → Bool
sets_named (set_of row values) c = names c row
sets_named (get_of row) c = false
sets_named unavailable c = false

abbrev pub disturbed : Reading → Reading → Panel → Bool
disturbed r s p =
    let c = command r.part in
    let d = command s.part in
    shared r s p && (sets_named c d || sets_named d c)

abbrev pub Undisturbed : Edition → Wall → List ℕ → List ℕ → Type 0
Undisturbed edition w b c = (k : ℕ) → k < length w → disturbed (reading_of edition b) (reading_of edition c) (get_or w k blank) ≡ false

abbrev pub ChangePlaces : Type 0
ChangePlaces = EitherOrderIf Undisturbed

-- of what passes on the line, bursts or answers, that of one room; `mine` has true where it is
abbrev pub of_room : {A : Type 0} → List Bool → List A → List A
of_room [] xs = []
of_room (m ∷ mine) [] = []
of_room (m ∷ mine) (x ∷ xs) = cond m (x ∷ of_room mine xs) (of_room mine xs)

-- The bursts of two rooms come in whatever order, each room's in its own: the wall is that of one room's after the other's, and each
-- room gets the answers that it would get alone.
abbrev pub EachAlone : Edition → Wall → List Bool → List (List ℕ) → Type 0
EachAlone edition w mine bursts =
    let theirs = map not mine in
    let one = of_room mine bursts in
    let other = of_room theirs bursts in
    let e = session edition w bursts in
    (e.wall ≡ (session edition w (one ++ other)).wall)
    × (of_room mine e.replies ≡ (session edition w one).replies) × (of_room theirs e.replies ≡ (session edition w other).replies)

-- for each burst of the one with each of the other
abbrev pub OfAll : (List ℕ → List ℕ → Type 0) → List Bool → List (List ℕ) → Type 0
OfAll Holds mine bursts = (b c : List ℕ) → Memᴰ b (of_room mine bursts) → Memᴰ c (of_room (map not mine) bursts) → Holds b c

abbrev pub EachAloneIf : (Edition → Wall → List ℕ → List ℕ → Type 0) → Type 0
EachAloneIf Holds =
    (edition : Edition) (t : Table) → WellFormed t → (mine : List Bool) (bursts : List (List ℕ)) → length mine ≡ length bursts
    → OfAll (Holds edition (panels_of t)) mine bursts → EachAlone edition (panels_of t) mine bursts

-- So it is where the two rooms address no panel in common; and where they do, but neither sets there what the other sets or asks for.
abbrev pub TwoRooms : Type 0
TwoRooms = EachAloneIf Apart

abbrev pub TwoHands : Type 0
TwoHands = EachAloneIf Undisturbed

-- What the premises are for, on 01's sample wall. Two sets with one code to the same panel, its fan to 4 and to 2, do not change
-- places, nor do such a set and the get of the fan.
abbrev pub to_panel : Edition → ℕ → List ℕ → List ℕ
to_panel edition id bytes = packet_of edition (monitor_id id) (group_id 0) bytes

abbrev pub OneSetting : Type 0
OneSetting =
    (edition : Edition)
    → let set = to_panel edition 1 (0x61 ∷ 4 ∷ []) in
    (EitherOrder edition two_panels set (to_panel edition 1 (0x61 ∷ 2 ∷ [])) → ⊥) × (EitherOrder edition two_panels set (to_panel edition 1 (0x62 ∷ [])) → ⊥)

-- Add is rightly excepted: a set to panel 3 addresses no panel of the two, and yet the table and the answer are others where
-- panel 3 was added before it.
abbrev pub with_three : Wall → Wall
with_three w = added w (monitor_id 3) (group_id 9) 0 0

abbrev pub AddExcepted : Type 0
AddExcepted =
    (edition : Edition)
    → let set = to_panel edition 3 (0x61 ∷ 4 ∷ []) in
    ((k : ℕ) → k < 2 → addressed_by (reading_of edition set).verdict (get_or two_panels k blank) ≡ false)
    × ((played edition (with_three two_panels) set).wall ≡ with_three (played edition two_panels set).wall → ⊥)
    × ((played edition (with_three two_panels) set).reply ≡ (played edition two_panels set).reply → ⊥)
