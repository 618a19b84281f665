use mathlib.Core.Path.{◌≡◌, sym, ◌∙◌}
use mathlib.Core.List.{List, []}
use Prim.Native.Nat.{ℕ}
use Rattle.std.specs.Prelude.{Result}
use Rattle.std.proofs.lemmas.Result.{err_from_is_err_and}
use Rattle.refusals.specs.declared.Refusal.{Refusal}
use Rattle.refusals.specs.Refusals.{if_sound}
use Rattle.image_frame.specs.Frame.{form_of, frame_of, records_in}
use Rattle.image_read.specs.Read.{read_records, read_of, in_table}
use Rattle.image_read.proofs.read_image.Goals as goal

-- by what the image as a whole comes to
by_frame : (image : List ℕ) {frame : Result (List ℕ) Refusal} → frame ≡ frame_of image
    → in_table (read_of image) ≡ in_table (if_sound frame (λ frame. read_records (form_of frame) [] (records_in frame)))
unfolding read_of
by_frame image e = rw (← e)

pub returns-in_err-frame : goal.returns-in_err-frame
returns-in_err-frame c =
    let p = err_from_is_err_and c.from_residual.result c.from_residual.ensures.1 in
    rw (p.1, p.2) (sym (by_frame _ (sym c.in_err-frame.was ∙ c.of.ensures)))

pub returns : goal.returns
returns c = c.all.ensures ∙ sym (by_frame _ (sym c.in_ok-frame.was ∙ c.of.ensures))
