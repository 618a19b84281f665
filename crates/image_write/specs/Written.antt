-- The setup image of a wall, in either form. 01, "Setup image, form 1"; 02, A2, and refusal 31; A6.
use Rattle.std.specs.Prelude.{ℕ, ◌+◌, ◌*◌, ◌/◌, ◌%◌, Bool, cond, ◌&&◌, leb, length, Result, Ok, Err}
use Rattle.std.specs.List.{list_all}
use mathlib.Core.List.{List, [], ◌∷◌, ◌++◌, map, flatten}
use Rattle.settings.specs.Settings.{set_code, byte_count, values_of, row_count}
use Rattle.image_forms.specs.declared.Form.{Form}
use Rattle.image_forms.specs.Forms.{form_byte, head_of, has_field, keeps}
use Rattle.lists.specs.Lists.{start_of, each, laid_over}
use Rattle.panels.specs.declared.Panel.{Panel}
use Rattle.panels.specs.Wall.{Wall, most_panels}
use Rattle.refusals.specs.Refusals.{no_room, would_lose}
use Rattle.image_write.specs.declared.Refusal.{Refusal}

-- the bytes of a record with all fields of its form, 01's and 02's (A2, A6), and of a panel in all, with the two of its start
abbrev pub record_size : Form → ℕ
record_size Form.One = 33
record_size Form.Two = 43

abbrev pub panel_size : Form → ℕ
panel_size form = record_size form + 2

-- a field: set code, length, values
abbrev pub field : ℕ → List ℕ → List ℕ
field row values = set_code row ∷ byte_count row ∷ values

-- nothing, where the form has no field for the row
abbrev pub field_in : Form → List ℕ → ℕ → List ℕ
field_in form values row = cond (has_field form row) (field row (values_of row values)) []

-- all fields of a panel that the form has, by rising code, which is the order of the rows
unfoldable pub fields_of : Form → List ℕ → List (List ℕ)
fields_of form values = each (field_in form values) row_count

-- a record: the head, then fields
unfoldable pub record_of : Form → Panel → List ℕ
record_of form p = head_of form p.id.0 p.group.0 p.profile ++ flatten (fields_of form p.values)

-- a start as two bytes, high byte first
abbrev pub high_low : ℕ → List ℕ
high_low n = n / 256 ∷ n % 256 ∷ []

-- where each record starts
unfoldable pub starts_of : List (List ℕ) → List (List ℕ)
starts_of records = each (λ k. high_low (start_of records k)) (length records)

-- records first, the trailer last: n starts, then n, then the form byte
unfoldable pub image_of : Form → List (List ℕ) → List ℕ
image_of form records = flatten records ++ flatten (starts_of records) ++ length records ∷ form_byte form ∷ []

-- panels in table order
abbrev pub records_of : Form → Wall → List (List ℕ)
records_of form w = map (record_of form) w

abbrev pub setup_of : Form → Wall → List ℕ
setup_of form w = image_of form (records_of form w)

-- how many bytes that is: behind the starts stand n and the form byte
abbrev pub size_of : Form → Wall → ℕ
size_of form w = panel_size form * length w + 2

-- the most that a table's image can have, that of a full table in form 2
abbrev pub largest : ℕ
largest = panel_size Form.Two * most_panels + 2

-- a form keeps all that a wall has
unfoldable pub loses_nothing : Form → Wall → Bool
loses_nothing form w = list_all (λ p. keeps form p.profile p.values) w

-- what writing answers: 31 comes before 19
unfoldable pub written_of : Form → Wall → List ℕ → Result ℕ Refusal
written_of form w out = cond (loses_nothing form w) (cond (leb (size_of form w) (length out)) (Ok (size_of form w)) (Err Refusal.NoRoom)) (Err Refusal.WouldLose)

-- a refusal's number, and that of what writing answers, 0 where the image is written
abbrev pub refusal_number : Refusal → ℕ
refusal_number Refusal.WouldLose = would_lose
refusal_number Refusal.NoRoom = no_room

abbrev pub written_number : Result ℕ Refusal → ℕ
written_number (Ok n) = 0
written_number (Err refusal) = refusal_number refusal

-- the output after it: past the image it is untouched, and on a refusal it is as before
unfoldable pub output_of : Form → Wall → List ℕ → List ℕ
output_of form w out = cond (loses_nothing form w && leb (size_of form w) (length out)) (laid_over (setup_of form w) out) out
