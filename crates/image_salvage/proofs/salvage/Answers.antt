use mathlib.Core.Path.{◌≡◌, refl, sym, ap, ◌∙◌}
use mathlib.Core.Bool.{false}
use mathlib.Core.List.{List}
use Prim.Native.Nat.{ℕ}
use Rattle.std.specs.Prelude.{Result, Ok, is_ok}
use Rattle.lists.specs.Lists.{laid_over}
use Rattle.refusals.specs.declared.Refusal.{Refusal}
use Rattle.refusals.specs.Refusals.{if_sound}
use Rattle.image_frame.specs.Frame.{frame_of}
use Rattle.image_frame.proofs.Edges.{frame_same}
use Rattle.image_salvage.specs.declared.Salvaged.{Salvaged}
use Rattle.image_salvage.specs.Salvaged.{Salvage, salvage_in, salvage_of, text_from, text_of, told_as}
use Rattle.image_salvage.proofs.salvage.Goals as goal

-- of an image that is sound as a whole
in_frame : (image : List ℕ) {frame : List ℕ} → frame_of image ≡ Ok frame → salvage_in frame ≡ salvage_of image
unfolding salvage_of
in_frame image e = sym (rw (ap is_ok e) (ap salvage_in (frame_same image e)))

pub returns-in_err-frame-clause-lines_after : goal.returns-in_err-frame-clause-lines_after
unfolding salvage_of text_from laid_over
returns-in_err-frame-clause-lines_after c =
    let no : is_ok (frame_of c.args.image.now) ≡ false = ap is_ok (sym c.of.ensures ∙ c.in_err-frame.was) in rw no refl

pub returns-clause-value : goal.returns-clause-value
returns-clause-value c =
    let image = c.args.image.now in
    let e = sym c.of.ensures ∙ c.in_ok-frame.was in
    ap {B = Result Salvaged Refusal} (λ (s : Salvaged). Ok s) (c.all.ensures.value ∙ ap told_as (in_frame image e))
    ∙ sym (ap (λ (r : Result (List ℕ) Refusal). if_sound r (λ frame. Ok (told_as (salvage_of image)))) e)

pub returns-clause-lines_after : goal.returns-clause-lines_after
returns-clause-lines_after c =
    c.all.ensures.lines_after ∙ ap (λ (s : Salvage). laid_over (text_of s) c.args.lines.now) (in_frame _ (sym c.of.ensures ∙ c.in_ok-frame.was))
