-- A setup moved from form to form. Assumes nothing.
use mathlib.Core.Path.{◌≡◌, refl, sym, ap, subst, ◌∙◌}
use mathlib.Core.Bool.{true}
use mathlib.Core.List.{List}
use Prim.Native.Nat.{ℕ, ◌≤◌}
use native.Mathlib.Omega.{arith}
use lib.ListN.{length, take, replicate, length-replicate}
use Rattle.std.specs.Prelude.{Result, Ok, IfOk}
use Rattle.std.specs.Result.{result_unwrap_or}
use Rattle.std.proofs.lemmas.Result.{IfOk-at_ok}
use Rattle.panels.specs.Wall.{Wall, most_panels}
use Rattle.panels.specs.WellFormed.{GoodWall, WellFormed}
use Rattle.panels.proofs.Laws.{panels_of_table}
use Rattle.image_forms.specs.declared.Form.{Form}
use Rattle.refusals.specs.declared.Refusal.{Refusal}
use Rattle.image_read.specs.Read.{read_of, in_table}
use Rattle.image_read.proofs.Sound.{read_formed}
use Rattle.image_write.specs.Written.{setup_of, size_of, loses_nothing, output_of}
use Rattle.image_write.proofs.Losing.{is_written}
use Rattle.image_back.proofs.Back.{front_is_image, written_back}
use Rattle.image_back.proofs.Held.{read_held}
use Rattle.demands.specs.Forms.{Moved, SameTable, CanMove, ReadGeneral, ThereAndBack, BackAndThere}

-- a wall that was read is good and has at most 32 panels
formed_read : (image : List ℕ) {w : Wall} → read_of image ≡ Ok w → GoodWall w × (length w ≤ most_panels)
formed_read image {w} e =
    let f = IfOk-at_ok WellFormed (ap in_table e) (read_formed image) in
    (subst GoodWall (panels_of_table w) f.good, subst (λ (v : Wall). length v ≤ most_panels) (panels_of_table w) f.few)

-- so that the other image is what the form's writer makes of it
is_setup : {form : Form} {image other : List ℕ} (m : Moved form image other) → other ≡ setup_of form m.wall
is_setup {form} {image} m = sym m.moved ∙ front_is_image form m.wall (formed_read image m.read).0 m.out m.count m.written

pub same_table : SameTable
same_table form image other m =
    let (good, few) = formed_read image m.read in
    ap read_of (sym m.moved) ∙ written_back form m.wall good few m.out m.count m.written ∙ sym m.read

-- an output of the image's size has room
pub can_move : CanMove
can_move form image w read held =
    let out : List ℕ = replicate (size_of form w) 0 in
    let long : length out ≡ size_of form w = length-replicate (size_of form w) 0 in
    let written = (is_written form w out held (omega arith)).0 in
    (take (size_of form w) (output_of form w out), record { wall = w; read = read; out = out; count = size_of form w; written = written; moved = refl })

pub reads_general : ReadGeneral
reads_general image one = subst (λ (f : Form). IfOk (read_of image) (λ w. loses_nothing f w ≡ true)) one (read_held image)

-- what is read of two images that read alike is one wall
same_wall : {v w : Wall} (image other : List ℕ) → read_of image ≡ Ok v → read_of other ≡ Ok w → read_of image ≡ read_of other → v ≡ w
same_wall {v} image other a b e = ap (λ (r : Result Wall Refusal). result_unwrap_or r v) (sym a ∙ e ∙ b)

pub there_and_back : ThereAndBack
there_and_back image there back own to from mine =
    is_setup from ∙ ap (setup_of Form.One) (same_wall _ _ from.read mine.read (same_table _ image there to)) ∙ sym (is_setup mine)

pub back_and_there : BackAndThere
back_and_there image back there from to = same_table _ back there to ∙ same_table _ image back from
