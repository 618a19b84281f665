-- What is kept of a setup image that passes 11 to 15, the faults in order, and their lines. 02, A7.
use Rattle.std.specs.Option.{option_map_or}
use Rattle.std.specs.Prelude.{ℕ, suc, ◌*◌, cond, length, drop, Result, Ok, is_ok}
use mathlib.Core.List.{List, [], ◌∷◌, ◌++◌, map, flatten}
use Rattle.panels.specs.Wall.{Wall, table_of, most_panels}
use Rattle.image_forms.specs.declared.Form.{Form}
use Rattle.image_forms.specs.Forms.{head_size}
use Rattle.image_faults.specs.declared.Fault.{Fault}
use Rattle.image_faults.specs.Lines.{line_of, longest_line}
use Rattle.refusals.specs.Refusals.{if_sound}
use Rattle.refusals.specs.declared.Refusal.{Refusal}
use Rattle.image_frame.specs.Frame.{form_of, frame_of, records_in}
use Rattle.image_record.specs.Head.{id_in, head_in, headed}
use Rattle.image_salvage.specs.declared.Salvaged.{Salvaged}
use Rattle.image_salvage.specs.Kept.{kept_of, most_faults}

-- the wall that is kept, and of each record, in order, its faults
pub record Salvage : Type 0 where
  pub wall : Wall
  pub faults : List (List Fault)

-- one more record's faults, before the others'
abbrev pub behind_faults : List Fault → Salvage → Salvage
behind_faults faults s = record { wall = s.wall; faults = faults ∷ s.faults }

-- Records in order. One with fault 16 is dropped, and only from one that is kept an ID counts as seen: its panel is at the end of
-- the wall.
unfoldable pub salvaged_from : Form → Wall → List (List ℕ) → Salvage
salvaged_from form w [] = record { wall = w; faults = [] }
salvaged_from form w (bytes ∷ records) =
    option_map_or (λ profile.
    let kept = kept_of form profile (drop (head_size form) bytes) in
    behind_faults kept.faults (salvaged_from form (w ++ headed bytes profile kept.values ∷ []) records)) (head_in form (id_in w) bytes)
    (behind_faults (Fault.Dropped ∷ []) (salvaged_from form w records))

-- of an image that is sound as a whole
abbrev pub salvage_in : List ℕ → Salvage
salvage_in image = salvaged_from (form_of image) [] (records_in image)

-- nothing of an image that 11 to 15 refuse
unfoldable pub salvage_of : List ℕ → Salvage
salvage_of image = cond (is_ok (frame_of image)) (salvage_in image) (record { wall = []; faults = [] })

-- the lines of a record with this number, and of some records that are numbered from it on
unfoldable pub lines_of : ℕ → List Fault → List ℕ
lines_of number faults = flatten (map (line_of number) faults)

unfoldable pub text_from : ℕ → List (List Fault) → List ℕ
text_from number [] = []
text_from number (faults ∷ rest) = lines_of number faults ++ text_from (suc number) rest

-- the text of all lines; records are numbered from 1
abbrev pub text_of : Salvage → List ℕ
text_of s = text_from 1 s.faults

-- which has room in this many bytes, whatever the image
abbrev pub lines_cap : ℕ
lines_cap = most_panels * most_faults * longest_line

-- what the code answers: the table, and how many bytes of text the lines have; or the refusal
abbrev pub told_as : Salvage → Salvaged
told_as s = record { table = table_of s.wall; told = length (text_of s) }

abbrev pub salvaged_as : List ℕ → Result Salvaged Refusal
salvaged_as image = if_sound (frame_of image) (λ frame. Ok (told_as (salvage_of image)))
