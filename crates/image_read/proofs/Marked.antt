-- Where exactly the IDs of a wall are marked, a record is read as it should be behind that wall. Assumes nothing.
use mathlib.Core.Path.{◌≡◌}
use mathlib.Core.Bool.{Bool}
use mathlib.Core.List.{List}
use Prim.Native.Nat.{ℕ}
use Rattle.panels.specs.Wall.{Wall}
use Rattle.image_forms.specs.declared.Form.{Form}
use Rattle.image_record.specs.Head.{marked, id_in}
use Rattle.image_record.proofs.Heads.{Marks, head_alike}
use Rattle.image_read.specs.Read.{panel_in}

pub panel_alike : {seen : List Bool} {w : Wall} → Marks seen w → (form : Form) (bytes : List ℕ) → panel_in form (marked seen) bytes ≡ panel_in form (id_in w) bytes
unfolding panel_in
panel_alike m form bytes = rw (head_alike m form bytes)
