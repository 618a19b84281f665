-- A setup moved from form to form. 02, A2.
use Rattle.std.specs.Prelude.{Ok, IfOk, ℕ, true, ◌≡◌, List, take}
use Rattle.image_forms.specs.declared.Form.{Form}
use Rattle.panels.specs.Wall.{Wall}
use Rattle.image_frame.specs.Frame.{form_of}
use Rattle.image_read.specs.Read.{read_of}
use Rattle.image_write.specs.Written.{loses_nothing, written_of, output_of}

-- an image is read without fault, and what a form's writer puts out of the table, where it does not refuse, is the other
pub record Moved (form : Form) (image other : List ℕ) : Type 0 where
  pub wall : Wall
  pub read : read_of image ≡ Ok wall
  pub out : List ℕ
  pub count : ℕ
  pub written : written_of form wall out ≡ Ok count
  pub moved : take count (output_of form wall out) ≡ other

-- The same table is read from both.
abbrev pub SameTable : Type 0
SameTable = (form : Form) (image other : List ℕ) → Moved form image other → read_of other ≡ read_of image

-- An image without fault can be moved to every form that loses nothing: to form 2 always,
abbrev pub CanMove : Type 0
CanMove =
    (form : Form) (image : List ℕ) (w : Wall) → read_of image ≡ Ok w → loses_nothing form w ≡ true
    → (other : List ℕ) × Moved form image other

-- and what is read from form 1 is general, so that form 1 loses nothing of it.
abbrev pub ReadGeneral : Type 0
ReadGeneral = (image : List ℕ) → form_of image ≡ Form.One → IfOk (read_of image) (λ w. loses_nothing Form.One w ≡ true)

-- To form 2 and back gives the image that form 1's writer makes of the same table: every image of form 1 goes that way.
abbrev pub ThereAndBack : Type 0
ThereAndBack = (image there back own : List ℕ) → Moved Form.Two image there → Moved Form.One there back → Moved Form.One image own → back ≡ own

-- To form 1, where it is not refused, and back gives the same table.
abbrev pub BackAndThere : Type 0
BackAndThere = (image back there : List ℕ) → Moved Form.One image back → Moved Form.Two back there → read_of there ≡ read_of image
