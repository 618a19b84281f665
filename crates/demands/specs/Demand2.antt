-- Demand 2. Each burst gets exactly the answer that 01 gives: that is `played`, to which `answers::play` is proved
-- equal. It goes by what is read of the burst, and what it never does is said here of every reading, and so of both editions.
use Rattle.std.specs.Prelude.{Ok, ℕ, ◌≤◌, ◌<◌, true, ◌⊎◌, ◌≡◌, length, get_or, take, IsOk, Some}
use mathlib.Core.List.{List, [], ◌∷◌, map, Forall₂}
use Rattle.settings.specs.declared.Profile.{Profile}
use Rattle.codes.specs.declared.Code.{Code}
use Rattle.settings.specs.Settings.{set_code, get_code, values_of, row_count, kind_row, tiling_row}
use Rattle.codes.specs.Found.{found_by}
use Rattle.models.specs.Models.{allowed_for, filled}
use Rattle.packet.specs.declared.Edition.{Edition}
use Rattle.packet.specs.declared.MonitorId.{MonitorId}
use Rattle.packet.specs.declared.GroupId.{GroupId}
use Rattle.packet.specs.declared.Control.{Control}
use Rattle.packet.specs.declared.Verdict.{Verdict}
use Rattle.packet.specs.Edition.{group_on}
use Rattle.packet.specs.Packet.{group_id, packet_of, most_data}
use Rattle.packet.specs.Reading.{Reading, reading_of}
use Rattle.panels.specs.declared.Panel.{Panel}
use Rattle.panels.specs.declared.Table.{Table}
use Rattle.panels.specs.Wall.{Wall, model_of, blank, table_of, panels_of}
use Rattle.panels.specs.Addressed.{reaches}
use Rattle.table_calls.specs.Calls.{added, removed}
use Rattle.panels.specs.WellFormed.{WellFormed}
use Rattle.answers.specs.Reply.{silence, word_from, report_from}
use Rattle.answers.specs.declared.Reply.{Reply}
use Rattle.answers.specs.Judged.{command, set_of}
use Rattle.answers.specs.Played.{answered}
use Rattle.answers.specs.Session.{by_burst, session}
use Rattle.demands.specs.Cases.{Case, tried, cases}
use Rattle.line.specs.Receiver.{Event, bursts_after, receiver_of, streamed}
use Rattle.image_forms.specs.declared.Form.{Form}
use Rattle.image_forms.specs.Forms.{has_field}
use Rattle.image_write.specs.Written.{written_of, output_of}
use Rattle.image_frame.specs.Frame.{form_of, frame_of, records_in}
use Rattle.image_read.specs.Fields.{fields_in}
use Rattle.image_read.specs.Read.{read_of, in_table}
use Rattle.image_read.specs.Entries.{Entry, bytes_of, fresh_entry, Without, Reordered, GiveAlike, SameHead}
use Rattle.image_salvage.specs.declared.Salvaged.{Salvaged}
use Rattle.image_salvage.specs.Salvaged.{salvaged_as}

-- a session goes by what is read of its bursts, one after the other,
abbrev pub ByReadings : Type 0
ByReadings = (edition : Edition) (w : Wall) (bursts : List (List ℕ)) → session edition w bursts ≡ by_burst answered w (map (reading_of edition) bursts)

-- and of a packet written out just its ID, its group, which on 1.85 is 0, and its data are read
abbrev pub ReadAsWritten : Type 0
ReadAsWritten =
    (edition : Edition) (i : MonitorId) (g : GroupId) (d : List ℕ) → length d ≤ most_data edition
    → let r = reading_of edition (packet_of edition i g d) in
    (r.verdict ≡ Verdict.Intact i (group_id (group_on edition g.0)) (length d)) × (r.part ≡ d)

-- a panel that a set changed: it was addressed, and only the row that the set code names is another, with the set's values, of
-- which a tiling's byte 0 leaves the wall that the panel had (02, A6); its own profile and kind allow what it then holds
pub record SetBy (r : Reading) (p q : Panel) : Type 0 where
  pub id : MonitorId
  pub group : GroupId
  pub count : ℕ
  pub row : ℕ
  pub values : List ℕ
  pub intact : r.verdict ≡ Verdict.Intact id group count
  pub addressed : reaches id group p ≡ true
  pub named : command r.part ≡ set_of row values
  pub in_range : allowed_for (model_of p) row (values_of row q.values) ≡ true
  pub same : (q.id ≡ p.id) × (q.group ≡ p.group) × (q.profile ≡ p.profile)
  pub stored : values_of row q.values ≡ filled row (get_or (values_of row p.values) 3 0) values
  pub others : (other : ℕ) → (other ≡ row → ⊥) → values_of other q.values ≡ values_of other p.values

-- every panel stays, or such a set changed it
abbrev pub OnlyAddressed : Type 0
OnlyAddressed = (t : Table) → WellFormed t → (r : Reading) (k : ℕ) → k < length (panels_of t)
    → let p = get_or (panels_of t) k blank in
    let q = get_or (answered (panels_of t) r).wall k blank in
    (q ≡ p) ⊎ SetBy r p q

-- an answer is silence, one of the three control words, or a report of a setting, which carries the stored values of the panel that
-- it is from
abbrev pub Answer-Is : Wall → Reply → Type 0
Answer-Is w r =
    (r ≡ silence)
    ⊎ (((i : MonitorId) × (c : Control) × (r ≡ word_from i c))
    ⊎ ((i : MonitorId) × (k : ℕ) × (row : ℕ) × (k < length w) × ((get_or w k blank).id.0 ≡ i.0) × (found_by (get_code row) ≡ Some (Code.Get row))
    × (r ≡ report_from i (get_code row ∷ values_of row (get_or w k blank).values))))

abbrev pub Answers : Type 0
Answers = (w : Wall) (r : Reading) → Answer-Is w (answered w r).reply

-- on the line: the receiver takes bytes and quiet marks one at a time, and each burst between two marks is played
abbrev pub Received : Type 0
Received = (edition : Edition) (w : Wall) (events : List Event) → streamed (receiver_of edition []) w events ≡ session edition w (bursts_after [] events)

-- tables come from the empty one by add, remove and bursts, or from an image that is read or salvaged
pub data Comes : Table → Type 0 where
  empty : Comes (table_of [])
  add : {t : Table} → Comes t → (i : MonitorId) (g : GroupId) (n k : ℕ) → Comes (table_of (added (panels_of t) i g n k))
  remove : {t : Table} → Comes t → (i : MonitorId) → Comes (table_of (removed (panels_of t) i))
  image : (bytes : List ℕ) (t : Table) → in_table (read_of bytes) ≡ Ok t → Comes t
  salvage : (bytes : List ℕ) (s : Salvaged) → salvaged_as bytes ≡ Ok s → Comes s.table
  burst : {t : Table} → Comes t → (r : Reading) → Comes (table_of (answered (panels_of t) r).wall)

abbrev pub InRange : Type 0
InRange = (t : Table) → Comes t → WellFormed t

-- A written setup of either form reads back as the same table: all that is not refused, by 31 or 19.
abbrev pub ReadsBack : Type 0
ReadsBack =
    (form : Form) (t : Table) → WellFormed t → (out : List ℕ) (n : ℕ) → written_of form (panels_of t) out ≡ Ok n
    → in_table (read_of (take n (output_of form (panels_of t) out))) ≡ Ok t

-- Fields go by code: an image without fault, and another, of the same form or the other one, whose records hold the same fields
-- in any order that has no kind behind a tiling, read as the same wall
abbrev pub Alike : (Form → Profile → List Entry → List Entry → Type 0) → Type 0
Alike P =
    (image other : List ℕ) → IsOk (frame_of other)
    → Forall₂ (SameHead P (form_of image) (form_of other)) (records_in image) (records_in other)
    → IsOk (read_of image) → read_of other ≡ read_of image

abbrev pub AnyOrder : Type 0
AnyOrder = Alike Reordered

-- or whose records give each setting the same values, where a code that is not there gives its fresh ones;
abbrev pub ByCode : Type 0
ByCode = Alike GiveAlike

-- and fields without a code read as with that field at its fresh value, which is that of the record's own profile.
abbrev pub LeftOut : Type 0
LeftOut =
    (profile : Profile) (form : Form) (row : ℕ) (es : List Entry) → row < row_count → has_field form row ≡ true → Without (set_code row) es
    → (row ≡ tiling_row → Without (set_code kind_row) es) → IsOk (fields_in form profile (bytes_of es))
    → fields_in form profile (bytes_of (fresh_entry profile row ∷ es)) ≡ fields_in form profile (bytes_of es)

-- the ten P cases of 01, and those of a 1.85 line
abbrev pub Cases : Type 0
Cases = (edition : Edition) → map (λ (c : Case). tried edition c.burst) (cases edition) ≡ cases edition
