-- A setup image of either form read. 01, "Setup image, form 1", refusals 11 to 18: 11 to 15 on the whole, then records in order,
-- each its 16 and then field after field its 17 and then 18; the first fault counts. 02, A2: 16 also goes by the form's head.
use Rattle.std.specs.Prelude.{ℕ, Bool, List, [], ◌∷◌, ◌++◌, drop, Result, Ok, Err}
use Rattle.std.specs.Option.{option_map_or}
use Rattle.panels.specs.declared.Panel.{Panel}
use Rattle.panels.specs.declared.Table.{Table}
use Rattle.panels.specs.Wall.{Wall, table_of}
use Rattle.image_forms.specs.declared.Form.{Form}
use Rattle.image_forms.specs.Forms.{head_size}
use Rattle.refusals.specs.declared.Refusal.{Refusal}
use Rattle.refusals.specs.Refusals.{if_sound}
use Rattle.image_frame.specs.Frame.{form_of, frame_of, records_in}
use Rattle.image_record.specs.Head.{id_in, head_in, headed}
use Rattle.image_read.specs.Fields.{fields_in}

-- the panel of a record, behind others with these IDs; or its 16, or the fields' 17 or 18
unfoldable pub panel_in : Form → (ℕ → Bool) → List ℕ → Result Panel Refusal
panel_in form seen bytes =
    option_map_or (λ profile. if_sound (fields_in form profile (drop (head_size form) bytes)) (λ values. Ok (headed bytes profile values)))
    (head_in form seen bytes) (Err Refusal.Record)

-- records in order, each a panel at the end of the wall, whose IDs are those seen before
unfoldable pub read_records : Form → Wall → List (List ℕ) → Result Wall Refusal
read_records form w [] = Ok w
read_records form w (bytes ∷ records) = if_sound (panel_in form (id_in w) bytes) (λ panel. read_records form (w ++ panel ∷ []) records)

-- the wall that an image holds, or the first refusal
unfoldable pub read_of : List ℕ → Result Wall Refusal
read_of image = if_sound (frame_of image) (λ frame. read_records (form_of frame) [] (records_in frame))

abbrev pub in_table : Result Wall Refusal → Result Table Refusal
in_table r = if_sound r (λ w. Ok (table_of w))
