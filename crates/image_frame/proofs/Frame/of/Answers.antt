use mathlib.Core.Path.{◌≡◌, sym, ap, ◌∙◌}
use mathlib.Core.Bool.{cond}
use mathlib.Core.List.{List}
use Prim.Native.Nat.{ℕ, ◌+◌, ◌*◌, ◌≤◌}
use borrow.Author.Tests.{le-ltb, lt-ltb}
use lib.Dec.{ltb}
use lib.ListN.{length}
use Rattle.std.specs.Prelude.{Option, Some, None, Result, Ok, Err, ok_or}
use Rattle.std.specs.Result.{result_ok}
use Rattle.panels.specs.Wall.{most_panels}
use Rattle.refusals.specs.declared.Refusal.{Refusal}
use Rattle.image_forms.specs.declared.Form.{Form}
use Rattle.image_forms.specs.Forms.{form_with}
use Rattle.image_frame.specs.Frame.{last_byte, count_of, starts_fit, frame_of}
use Rattle.image_frame.proofs.Frame.of.Goals as goal

-- what a form byte stands for, from what was tried
by_number : {A E : Type 0} (o : Option A) (e : E) {r : Result A E} → ok_or o e ≡ r → o ≡ result_ok r
by_number (Some x) e h = ap result_ok h
by_number None e h = ap result_ok h

-- what is left to ask of an image whose form is known
known : (image : List ℕ) {form : Form} → 2 ≤ length image → form_with (last_byte image) ≡ Some form
    → frame_of image ≡ cond (ltb most_panels (count_of image)) (Err Refusal.TooMany)
    (cond (ltb (length image) (2 * count_of image + 2)) (Err Refusal.NoStarts) (cond (starts_fit image) (Ok image) (Err Refusal.Starts)))
unfolding frame_of
known image two form = rw (le-ltb (length image) 2 two, form)

pub returns-then-len-lt2 : goal.returns-then-len-lt2
unfolding frame_of
returns-then-len-lt2 c = simp (lt-ltb _ _ c.if-len-lt2.true)

pub returns-in_default : goal.returns-in_default
unfolding frame_of
returns-in_default c = simp (le-ltb _ _ c.if-len-lt2.false, by_number _ _ (sym c.try_from.ensures ∙ c.in_default.is))

pub returns-then-count-gt-MOST_PANELS : goal.returns-then-count-gt-MOST_PANELS
returns-then-count-gt-MOST_PANELS c =
    sym (known _ c.if-len-lt2.false (by_number _ _ (sym c.try_from.ensures ∙ c.in-Ok.is)) ∙ rw (← c.count_of-count.ensures.0) (simp (lt-ltb _ _ c.if-count-gt-MOST_PANELS.true)))

pub returns-then-len-count : goal.returns-then-len-count
returns-then-len-count c =
    sym (known _ c.if-len-lt2.false (by_number _ _ (sym c.try_from.ensures ∙ c.in-Ok.is))
    ∙ rw (← c.count_of-count.ensures.0) (simp (le-ltb _ _ c.if-count-gt-MOST_PANELS.false, lt-ltb _ _ c.if-len-count.true)))

pub returns-then-not-starts_fit : goal.returns-then-not-starts_fit
returns-then-not-starts_fit c =
    sym (known _ c.if-len-lt2.false (by_number _ _ (sym c.try_from.ensures ∙ c.in-Ok.is))
    ∙ rw (← c.count_of-count.ensures.0) (simp (le-ltb _ _ c.if-count-gt-MOST_PANELS.false, le-ltb _ _ c.if-len-count.false, sym c.starts_fit.ensures ∙ c.if-not-starts_fit.true)))

pub returns : goal.returns
returns c =
    sym (known _ c.if-len-lt2.false (by_number _ _ (sym c.try_from.ensures ∙ c.in-Ok.is))
    ∙ rw (← c.count_of-count.ensures.0) (simp (le-ltb _ _ c.if-count-gt-MOST_PANELS.false, le-ltb _ _ c.if-len-count.false, sym c.starts_fit.ensures ∙ c.if-not-starts_fit.false)))

pub invariant_of-result : goal.invariant_of-result
invariant_of-result c = (
  c.count_of-count.ensures.0,
  record { two = c.if-len-lt2.false; few = rw (← c.count_of-count.ensures.0) c.if-count-gt-MOST_PANELS.false; room = rw (← c.count_of-count.ensures.0) c.if-len-count.false; starts = sym c.starts_fit.ensures ∙ c.if-not-starts_fit.false },
)
