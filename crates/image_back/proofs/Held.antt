-- A form keeps whatever is read from its images: what it has no field for is never taken, and stays fresh. Assumes nothing.
use mathlib.Core.Path.{◌≡◌, refl, ap, subst}
use mathlib.Core.Bool.{Bool, true}
use mathlib.Core.List.{List, [], ◌∷◌, ◌++◌}
use Prim.Native.Nat.{ℕ}
use lib.ListN.{drop}
use Rattle.std.specs.Prelude.{Option, Result, Ok, Err, IfOk, unwrap_or}
use Rattle.settings.specs.declared.Profile.{Profile}
use Rattle.panels.specs.declared.Panel.{Panel}
use Rattle.panels.specs.Wall.{Wall}
use Rattle.image_forms.specs.declared.Form.{Form}
use Rattle.image_forms.specs.Forms.{head_size, keeps}
use Rattle.image_forms.proofs.Laws.{keeps-fresh, two_keeps}
use Rattle.image_write.specs.Written.{loses_nothing}
use Rattle.image_write.proofs.Losing.{one_more}
use Rattle.image_frame.specs.Frame.{form_of, frame_of, records_in}
use Rattle.image_frame.proofs.Edges.{frame_same}
use Rattle.refusals.specs.Refusals.{if_sound}
use Rattle.refusals.specs.declared.Refusal.{Refusal}
use Rattle.image_read.specs.Read.{panel_in, read_records, read_of}
use Rattle.image_record.specs.Head.{id_in}
use Rattle.image_record.proofs.Heads.{head-known}
use Rattle.image_read.proofs.Sound.{fields_gathered, panel_is}

panel-held : (form : Form) (seen : ℕ → Bool) (bytes : List ℕ) {p : Panel} → panel_in form seen bytes ≡ Ok p → keeps form p.profile p.values ≡ true
panel-held Form.One seen bytes {p} e =
    let read = panel_is Form.One seen bytes e in
    let general = (head-known Form.One seen bytes read.profile read.head).1 in
    let is : Profile.General ≡ read.profile = ap (λ (o : Option Profile). unwrap_or o Profile.General) general in
    subst (λ (p : Panel). keeps Form.One p.profile p.values ≡ true) read.is
    (subst (λ (profile : Profile). keeps Form.One profile read.values ≡ true) is
    (keeps-fresh Profile.General read.values Form.One refl
    (λ row h none. (fields_gathered Form.One Profile.General (drop (head_size Form.One) bytes) (rw is read.fields)).fresh row none)))
panel-held Form.Two seen bytes e = two_keeps _ _

abbrev Held : Form → Result Wall Refusal → Type 0
Held form r = IfOk r (λ w. loses_nothing form w ≡ true)

records-held : (form : Form) (w : Wall) (records : List (List ℕ)) → loses_nothing form w ≡ true → Held form (read_records form w records)
unfolding read_records
records-held form w [] e = e
records-held form w (bytes ∷ records) e =
    go (panel_in form (id_in w) bytes) (λ p read. records-held form (w ++ p ∷ []) records (one_more form w p e (panel-held form (id_in w) bytes read)))
  where
    go : (r : Result Panel Refusal) → ((p : Panel) → r ≡ Ok p → Held form (read_records form (w ++ p ∷ []) records))
        → Held form (if_sound r (λ p. read_records form (w ++ p ∷ []) records))
    go (Ok p) ih = ih p refl
    go (Err r) ih = tt

pub read_held : (image : List ℕ) → IfOk (read_of image) (λ w. loses_nothing (form_of image) w ≡ true)
unfolding read_of
read_held image = go (frame_of image) (λ frame e. frame_same image e)
  where
    go : (r : Result (List ℕ) Refusal) → ((frame : List ℕ) → r ≡ Ok frame → image ≡ frame)
        → Held (form_of image) (if_sound r (λ frame. read_records (form_of frame) [] (records_in frame)))
    go (Ok frame) same = rw (← same frame refl) (records-held (form_of image) [] (records_in image) (unfold loses_nothing in refl))
    go (Err r) same = tt
