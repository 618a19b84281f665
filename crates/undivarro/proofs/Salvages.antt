-- What the parts of a salvage leave together. Assumes nothing.
use mathlib.Core.Path.{◌≡◌, refl, sym, ap, ap₂, ◌∙◌}
use mathlib.Core.Bool.{Bool, true, false, cond, ◌&&◌, false≢true}
use mathlib.Core.List.{List}
use Prim.Native.Nat.{ℕ, ◌≤◌}
use native.Mathlib.Omega.{arith}
use lib.Dec.{leb}
use lib.ListN.{length, take}
use lib.Seq.{take_at}
use Rattle.std.specs.Prelude.{None, Result, Ok, Err, is_ok, unwrap_or}
use Rattle.std.specs.Result.{result_err}
use Rattle.lists.specs.Lists.{laid_over}
use Rattle.refusals.specs.declared.Refusal.{Refusal}
use Rattle.refusals.specs.Refusals.{refusal_number, no_room, if_sound}
use Rattle.lists.proofs.Laid.{length_laid, laid_over_lem}
use Rattle.panels.specs.Wall.{Wall, panels_of}
use Rattle.panels.proofs.Laws.{panels_of_table}
use Rattle.image_forms.specs.declared.Form.{Form}
use Rattle.image_frame.specs.Frame.{frame_of}
use Rattle.image_write.specs.Written.{setup_of, size_of}
use Rattle.image_salvage.specs.declared.Salvaged.{Salvaged}
use Rattle.image_salvage.specs.Salvaged.{salvage_of, text_of, lines_cap, told_as, salvaged_as}
use Rattle.image_salvage.proofs.Sound.{salvaged_is}
use Rattle.image_salvage.proofs.Told.{text_short}
use Rattle.undivarro.specs.Calls.{After, refused, given, unless_refused, after_salvage}

-- an image of which nothing is kept
pub salvage-refused : (image lines out : List ℕ) {r : Refusal} → salvaged_as image ≡ Err r → refused (refusal_number r) lines out ≡ after_salvage image lines out
unfolding after_salvage
salvage-refused image lines out {r} e = go (frame_of image) _ e
  where
    go : (f : Result (List ℕ) Refusal) (then : List ℕ → After) → if_sound f (λ frame. Ok (told_as (salvage_of image))) ≡ Err r → refused (refusal_number r) lines out ≡ unless_refused f then lines out
    go (Ok frame) then e = absurd (false≢true (sym (ap is_ok e)))
    go (Err d) then e = ap (λ (d : Refusal). refused (refusal_number d) lines out) (ap (λ (s : Result Salvaged Refusal). unwrap_or (result_err s) r) (sym e))

module _ (image : List ℕ) {s : Salvaged} (is : salvaged_as image ≡ Ok s) where
  abbrev kept_is : s ≡ told_as (salvage_of image)
  kept_is = salvaged_is image is

  pub wall-kept : panels_of s.table ≡ (salvage_of image).wall
  wall-kept = ap (λ (r : Salvaged). panels_of r.table) kept_is ∙ panels_of_table (salvage_of image).wall

  -- the text at the front of what was lent
  pub told_short : s.told ≤ lines_cap
  told_short = omega (arith, ap (λ (r : Salvaged). r.told) kept_is, text_short image)

  module _ (first text : List ℕ) (laid : text ≡ laid_over (text_of (salvage_of image)) first) where
    pub text_long : lines_cap ≤ length first → length text ≡ length first
    text_long h = ap length (laid ∙ sym (laid_over_lem (text_of (salvage_of image)) first)) ∙ length_laid 0 (text_of (salvage_of image)) first (omega (arith, text_short image))

    pub front_told : take s.told text ≡ text_of (salvage_of image)
    unfolding laid_over
    front_told =
        ap₂ take (ap (λ (r : Salvaged). r.told) kept_is) laid ∙ take_at (text_of (salvage_of image)) _ (length (text_of (salvage_of image))) refl

    pub count-told : s.told ≡ length (take s.told text)
    count-told = ap (λ (r : Salvaged). r.told) kept_is ∙ ap length (sym front_told)

  -- and both ends
  module _ (lines out : List ℕ) where
    abbrev ends : Bool → After
    ends room = cond room (given (text_of (salvage_of image)) (setup_of Form.Two (salvage_of image).wall) None lines out) (refused no_room lines out)

    by_room : (room : Bool) → (leb lines_cap (length lines) && leb (size_of Form.Two (panels_of s.table)) (length out)) ≡ room → after_salvage image lines out ≡ ends room
    unfolding after_salvage
    by_room room r =
        go (frame_of image) is
        ∙ ap ends (ap (λ (w : Wall). leb lines_cap (length lines) && leb (size_of Form.Two w) (length out)) (sym wall-kept) ∙ r)
      where
        go : (f : Result (List ℕ) Refusal) {x : After} → if_sound f (λ frame. Ok (told_as (salvage_of image))) ≡ Ok s → unless_refused f (λ frame. x) lines out ≡ x
        go (Ok frame) e = refl
        go (Err r) e = absurd (false≢true (ap is_ok e))

    pub salvage-no-room : (leb lines_cap (length lines) && leb (size_of Form.Two (panels_of s.table)) (length out)) ≡ false → refused no_room lines out ≡ after_salvage image lines out
    salvage-no-room r = sym (by_room false r)

    pub salvage-given : (leb lines_cap (length lines) && leb (size_of Form.Two (panels_of s.table)) (length out)) ≡ true
        → given (text_of (salvage_of image)) (setup_of Form.Two (salvage_of image).wall) None lines out ≡ after_salvage image lines out
    salvage-given r = sym (by_room true r)
