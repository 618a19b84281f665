-- Where the records of an image that is sound as a whole begin and end. Assumes nothing.
use mathlib.Core.Path.{◌≡◌, refl, sym, ap, subst, ◌∙◌}
use mathlib.Core.Bool.{Bool, true, false, cond, false≢true}
use mathlib.Core.List.{List, [], ◌∷◌}
use Prim.Native.Nat.{ℕ, zero, suc, ◌+◌, ◌-◌, ◌*◌, ◌≤◌, ◌<◌}
use mathlib.Core.Logic.{⊎_elim}
use native.Mathlib.Nat.{eq-or-lt_of_le}
use native.Mathlib.Numerals.{add-one}
use native.Mathlib.Omega.{arith}
use borrow.Author.Tests.{ltb-true, ltb-false, eqb-true, le-ltb}
use lib.Dec.{ltb, eqb}
use lib.ListN.{length, drop}
use lib.Seq.{drop-cons}
use Rattle.image_forms.specs.declared.Form.{Form}
use Rattle.std.specs.Option.{option_map_or}
use Rattle.panels.specs.Wall.{most_panels}
use Rattle.lists.specs.Lists.{each}
use Rattle.lists.proofs.Both.{both}
use Rattle.lists.proofs.Each.{in_each, length-each}
use Rattle.std.specs.Prelude.{Option, Some, None, Result, Ok, Err, is_ok, IsOk}
use Rattle.std.specs.Result.{result_unwrap_or}
use Rattle.image_forms.specs.Forms.{form_with}
use Rattle.refusals.specs.declared.Refusal.{Refusal}
use Rattle.image_frame.specs.Frame.{last_byte, count_of, starts_at, edge, rises, starts_fit, frame_of, IsFrame, record_in, records_in}

pub sound : (image : List ℕ) → IsOk (frame_of image) → IsFrame image × (frame_of image ≡ Ok image)
unfolding frame_of
sound image e = go _ _ _ _ _ refl refl refl refl refl e
  where
    go : (a : Bool) (b : Option Form) (c d f : Bool) → ltb (length image) 2 ≡ a → form_with (last_byte image) ≡ b → ltb most_panels (count_of image) ≡ c
        → ltb (length image) (2 * count_of image + 2) ≡ d → starts_fit image ≡ f
        → let r = cond a (Err Refusal.TooShort) (option_map_or (λ form. cond c (Err Refusal.TooMany) (cond d (Err Refusal.NoStarts) (cond f (Ok image) (Err Refusal.Starts)))) b (Err Refusal.OtherForm)) in
        IsOk r → IsFrame image × (r ≡ Ok image)
    go true b c d f ea eb ec ed ef e = absurd (false≢true e)
    go false None c d f ea eb ec ed ef e = absurd (false≢true e)
    go false (Some form) true d f ea eb ec ed ef e = absurd (false≢true e)
    go false (Some form) false true f ea eb ec ed ef e = absurd (false≢true e)
    go false (Some form) false false false ea eb ec ed ef e = absurd (false≢true e)
    go false (Some form) false false true ea eb ec ed ef e =
        (record { two = ltb-false _ _ ea; few = ltb-false _ _ ec; room = ltb-false _ _ ed; starts = ef }, refl)

pub frame_same : (image : List ℕ) {frame : List ℕ} → frame_of image ≡ Ok frame → image ≡ frame
frame_same image e = ap (λ (r : Result (List ℕ) Refusal). result_unwrap_or r []) (sym (sound image (ap is_ok e)).1 ∙ e)

pub frame_is : (image : List ℕ) {frame : List ℕ} → frame_of image ≡ Ok frame → IsFrame frame
frame_is image e = subst IsFrame (frame_same image e) (sound image (ap is_ok e)).0

rising : (image : List ℕ) (k m : ℕ) → rises image k m ≡ true → (j : ℕ) → k ≤ j → j < k + m → edge image j < edge image (suc j)
unfolding rises
rising image k zero e j l h = absurd (omega arith)
rising image k (suc m) e j l h =
    let t = both _ _ e in
    ⊎_elim (λ (same : k ≡ j). rw (← same) (ltb-true _ _ t.0)) (λ (more : k < j). rising image (suc k) m t.1 j more (omega arith)) (eq-or-lt_of_le l)

-- the records from one on
pub record_next : (image : List ℕ) (k : ℕ) → k < count_of image → drop k (records_in image) ≡ record_in image k ∷ drop (k + 1) (records_in image)
unfolding records_in
record_next image k h =
    let ls = each (record_in image) (count_of image) in
    let n = length-each (record_in image) (count_of image) in
    rw (drop-cons ls k [] (omega arith), in_each (record_in image) (count_of image) {k = k} [] h, add-one)

pub record_count : (image : List ℕ) → length (records_in image) ≡ count_of image
unfolding records_in
record_count image = length-each (record_in image) (count_of image)

module _ {image : List ℕ} (f : IsFrame image) where
  pub first_edge : edge image 0 ≡ 0
  unfolding starts_fit
  first_edge = eqb-true _ _ (both (eqb (edge image 0) 0) (rises image 0 (count_of image)) f.starts).0

  pub edge_less : (k : ℕ) → k < count_of image → edge image k < edge image (suc k)
  unfolding starts_fit
  edge_less k h = rising image 0 (count_of image) (both (eqb (edge image 0) 0) (rises image 0 (count_of image)) f.starts).1 k (omega arith) (omega arith)

  pub last_edge : edge image (count_of image) ≡ starts_at image
  unfolding edge
  last_edge = rw (le-ltb (count_of image) (count_of image) (omega arith))

  up_to_last : (m k : ℕ) → k + m ≡ count_of image → edge image k ≤ starts_at image
  up_to_last zero k e = let same : k ≡ count_of image = omega arith in rw same (omega (arith, last_edge))
  up_to_last (suc m) k e = omega (arith, edge_less k (omega arith), up_to_last m (suc k) (omega arith))

  pub edge-inside : (k : ℕ) → k ≤ count_of image → edge image k ≤ length image
  edge-inside k h = omega (arith, up_to_last (count_of image - k) k (omega arith))
