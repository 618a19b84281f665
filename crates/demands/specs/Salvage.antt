-- Salvage of a setup image (02, A7): what the reader and the salvage say of an image, what is kept, and that the lines tell all of
-- it that is not from the image.
use Rattle.std.specs.Prelude.{ℕ, ◌≤◌, ◌<◌, Bool, true, false, ◌⊎◌, ◌≡◌, length, get_or, drop, Some, Ok, IsOk}
use mathlib.Core.List.{List, [], ◌∷◌, ◌++◌, flatten, Memᴰ}
use Rattle.settings.specs.declared.Profile.{Profile}
use Rattle.settings.specs.Settings.{set_code, fresh_values, values_of, row_count}
use Rattle.panels.specs.declared.Panel.{Panel}
use Rattle.panels.specs.Wall.{Wall, table_of}
use Rattle.panels.specs.WellFormed.{WellFormed}
use Rattle.image_forms.specs.declared.Form.{Form}
use Rattle.image_forms.specs.Forms.{head_size, profile_in}
use Rattle.image_faults.specs.declared.Fault.{Fault}
use Rattle.image_faults.specs.Lines.{fault_number, line_of}
use Rattle.refusals.specs.Refusals.{number_of}
use Rattle.image_frame.specs.Frame.{form_of, frame_of, records_in}
use Rattle.image_record.specs.declared.Step.{Step}
use Rattle.image_record.specs.Head.{headed}
use Rattle.image_record.specs.Field.{step_at}
use Rattle.image_read.specs.Read.{read_of}
use Rattle.image_read.specs.Entries.{Entry, bytes_of, Without}
use Rattle.image_write.specs.Written.{setup_of}
use Rattle.image_salvage.specs.Salvaged.{salvage_of, text_of}

-- the number of the first fault, 0 where there is none
abbrev pub first_fault : List (List Fault) → ℕ
first_fault [] = 0
first_fault ([] ∷ rest) = first_fault rest
first_fault ((fault ∷ faults) ∷ rest) = fault_number fault

-- Reader and salvage never disagree: what the reader refuses an image by is the first fault that the lines tell.
abbrev pub SameFault : Type 0
SameFault = (image : List ℕ) → IsOk (frame_of image) → number_of (read_of image) ≡ first_fault (salvage_of image).faults

-- A sound image gives the reader's own table and no lines.
abbrev pub SoundKept : Type 0
SoundKept = (image : List ℕ) (w : Wall) → read_of image ≡ Ok w → ((salvage_of image).wall ≡ w) × (text_of (salvage_of image) ≡ [])

-- What is kept is well-formed, and its image reads as just that.
abbrev pub KeptReads : Type 0
KeptReads =
    (image : List ℕ) → let w = (salvage_of image).wall in
    WellFormed (table_of w) × (read_of (setup_of Form.Two w) ≡ Ok w)

-- In the header's own numbers: 32 records with at most eleven lines each, and nine bytes for a line.
abbrev pub LinesFew : Type 0
LinesFew = (image : List ℕ) → (length (flatten (salvage_of image).faults) ≤ 352) × (length (text_of (salvage_of image)) ≤ 3168)

-- The values vs of a row: those of the field with its code; or fresh, and there is no such field; or fresh, and the code is told.
abbrev pub TellsRow : Profile → List Entry → List Fault → ℕ → List ℕ → Type 0
TellsRow profile es faults row vs =
    ((e : Entry) × Memᴰ e es × (e.code ≡ set_code row) × (e.values ≡ vs))
    ⊎ ((vs ≡ values_of row (fresh_values profile)) × (Without (set_code row) es ⊎ Memᴰ (Fault.NotAllowed (set_code row)) faults))

-- A panel that is kept of a record with these faults: the head says its ID, group and profile, and its values are told by the
-- record's fields before the first with fault 17. Where they stop is the record's end, or a 17 by the reader's own definition, whose
-- code is told; the rows seen there are those of the fields.
pub record Tells (form : Form) (bytes : List ℕ) (faults : List Fault) (p : Panel) : Type 0 where
  pub head : p ≡ headed bytes p.profile p.values
  pub known : profile_in form bytes ≡ Some p.profile
  pub es : List Entry
  pub rest : List ℕ
  pub fields : drop (head_size form) bytes ≡ bytes_of es ++ rest
  pub seen : List Bool
  pub marks : (row : ℕ) → row < row_count
      → (get_or seen row false ≡ false → Without (set_code row) es) × (get_or seen row false ≡ true → (e : Entry) × Memᴰ e es × (e.code ≡ set_code row))
  pub stops : (step_at form p.profile seen p.values rest ≡ Step.End)
      ⊎ ((step_at form p.profile seen p.values rest ≡ Step.Broken) × Memᴰ (Fault.Broken (get_or rest 0 0)) faults)
  pub rows : (row : ℕ) → row < row_count → TellsRow p.profile es faults row (values_of row p.values)
  pub kept : Memᴰ Fault.Dropped faults → ⊥

-- Records with their faults, and the wall that is kept of them, in order: a record is dropped, and told so, or its panel is told.
pub data Told (form : Form) : List (List ℕ) → List (List Fault) → Wall → Type 0 where
  none : Told form [] [] []
  dropped : {bytes : List ℕ} {records : List (List ℕ)} {faults : List (List Fault)} {w : Wall} → Told form records faults w
      → Told form (bytes ∷ records) ((Fault.Dropped ∷ []) ∷ faults) w
  panel : {bytes : List ℕ} {records : List (List ℕ)} {fs : List Fault} {faults : List (List Fault)} {p : Panel} {w : Wall} → Tells form bytes fs p
      → Told form records faults w → Told form (bytes ∷ records) (fs ∷ faults) (p ∷ w)

-- A reader who knows the image and the faults can tell every value that isn't from the image.
abbrev pub AllTold : Type 0
AllTold =
    (image : List ℕ) → IsOk (frame_of image) → Told (form_of image) (records_in image) (salvage_of image).faults (salvage_of image).wall

-- And who knows the lines knows the faults: no line is that of another record or of another fault.
abbrev pub CodeOf : Fault → Type 0
CodeOf Fault.Dropped = Unit {0}
CodeOf (Fault.Broken code) = code < 256
CodeOf (Fault.NotAllowed code) = code < 256

abbrev pub LinesTell : Type 0
LinesTell = (k j : ℕ) (f g : Fault) → k < 100 → j < 100 → CodeOf f → CodeOf g → line_of k f ≡ line_of j g → (k ≡ j) × (f ≡ g)
