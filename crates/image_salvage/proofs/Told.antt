-- How many lines an image can have, and how long their text is. Assumes nothing.
use mathlib.Core.Path.{◌≡◌, refl, sym, ap, subst}
use mathlib.Core.Bool.{Bool, true, false, cond}
use mathlib.Core.List.{List, [], ◌∷◌, flatten}
use Prim.Native.Nat.{ℕ, suc, ◌*◌, ◌≤◌}
use native.Mathlib.Omega.{arith}
use lib.ListN.{length, drop, replicate, length-append}
use Rattle.settings.specs.declared.Profile.{Profile}
use Rattle.std.specs.Prelude.{Option, Some, None, is_ok}
use Rattle.settings.specs.Settings.{fresh_values, row_count}
use Rattle.panels.specs.Wall.{Wall, most_panels}
use Rattle.image_forms.specs.declared.Form.{Form}
use Rattle.image_forms.specs.Forms.{head_size}
use Rattle.image_faults.specs.declared.Fault.{Fault}
use Rattle.image_faults.specs.Lines.{longest_line}
use Rattle.image_frame.specs.Frame.{form_of, records_in, frame_of}
use Rattle.image_frame.proofs.Edges.{sound, record_count}
use Rattle.image_record.specs.Head.{id_in, head_in}
use Rattle.image_salvage.specs.Kept.{most_faults}
use Rattle.image_salvage.specs.Salvaged.{Salvage, salvaged_from, salvage_of, lines_of, text_from, text_of, lines_cap}
use Rattle.image_salvage.proofs.Bounds.{faults-few, lines_short}
use Rattle.image_salvage.proofs.Sound.{record_dropped, record_kept}

-- some records' faults, few for each
abbrev Few : List (List Fault) → Type 0
Few [] = Unit {0}
Few (faults ∷ rest) = (length faults ≤ most_faults) × Few rest

-- of each record, in order
record Each (n : ℕ) (faults : List (List Fault)) : Type 0 where
  as_many : length faults ≡ n
  few : Few faults

from_each : (form : Form) (w : Wall) (records : List (List ℕ)) → Each (length records) (salvaged_from form w records).faults
unfolding salvaged_from
from_each form w [] = record { as_many = refl; few = tt }
from_each form w (bytes ∷ records) = go (head_in form (id_in w) bytes) refl (λ v. from_each form v records)
  where
    so : {s : Salvage} → salvaged_from form w (bytes ∷ records) ≡ s → Each (suc (length records)) s.faults
        → Each (suc (length records)) (salvaged_from form w (bytes ∷ records)).faults
    so e each = subst (λ (s : Salvage). Each (suc (length records)) s.faults) (sym e) each

    go : (n : Option Profile) → head_in form (id_in w) bytes ≡ n → ((v : Wall) → Each (length records) (salvaged_from form v records).faults)
        → Each (suc (length records)) (salvaged_from form w (bytes ∷ records)).faults
    go (Some profile) e ih =
        let i = ih _ in
        so (record_kept form w bytes records profile e)
        (record {
          as_many = ap suc i.as_many;
          few = (faults-few form profile most_faults (replicate row_count false) (fresh_values profile) (drop (head_size form) bytes), i.few);
        })
    go None e ih = let i = ih w in so (record_dropped form w bytes records e) (record { as_many = ap suc i.as_many; few = (omega arith, i.few) })

lines_in : (number : ℕ) (faults : List (List Fault)) → Few faults → length (text_from number faults) ≤ most_faults * longest_line * length faults
unfolding text_from
lines_in number [] few = omega arith
lines_in number (faults ∷ rest) (few, more) =
    rw (length-append (lines_of number faults) (text_from (suc number) rest)) (omega (arith, lines_short number faults, lines_in (suc number) rest more))

all_lines : (faults : List (List Fault)) → Few faults → length (flatten faults) ≤ most_faults * length faults
unfolding flatten
all_lines [] few = omega arith
all_lines (faults ∷ rest) (few, more) = simp length-append (omega (arith, all_lines rest more))

salvage-each : (image : List ℕ) → (n : ℕ) × (n ≤ most_panels) × Each n (salvage_of image).faults
unfolding salvage_of
salvage-each image = go (is_ok (frame_of image)) refl
  where
    go : (t : Bool) → is_ok (frame_of image) ≡ t
        → (n : ℕ) × (n ≤ most_panels) × Each n (cond t (salvaged_from (form_of image) [] (records_in image)) (record { wall = []; faults = [] })).faults
    go true e = (length (records_in image), omega (arith, record_count image, (sound image e).0.few), from_each (form_of image) [] (records_in image))
    go false e = (0, omega arith, record { as_many = refl; few = tt })

-- whatever the image
pub lines_few : (image : List ℕ) → length (flatten (salvage_of image).faults) ≤ most_panels * most_faults
lines_few image = let (n, few, each) = salvage-each image in omega (arith, all_lines (salvage_of image).faults each.few, each.as_many)

pub text_short : (image : List ℕ) → length (text_of (salvage_of image)) ≤ lines_cap
text_short image = let (n, few, each) = salvage-each image in omega (arith, lines_in 1 (salvage_of image).faults each.few, each.as_many)
