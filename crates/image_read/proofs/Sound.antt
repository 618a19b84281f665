-- Reading gives only well-formed tables, and leaves fresh what the form has no field for. Assumes nothing.
use mathlib.Core.Path.{◌≡◌, refl, ap, subst}
use mathlib.Core.Bool.{Bool, false, false≢true}
use mathlib.Core.List.{List, [], ◌∷◌, ◌++◌}
use Prim.Native.Nat.{ℕ, ◌+◌, ◌≤◌, ◌<◌}
use native.Mathlib.Omega.{arith}
use lib.ListN.{length, drop, length-append}
use Rattle.std.specs.Prelude.{Option, Some, None, Result, Ok, Err, is_ok, IfOk}
use Rattle.std.specs.Result.{result_unwrap_or}
use Rattle.std.specs.Option.{option_map_or}
use Rattle.settings.specs.declared.Profile.{Profile}
use Rattle.settings.specs.Settings.{fresh_values, values_of}
use Rattle.lists.specs.Lists.{each}
use Rattle.lists.proofs.Each.{length-each}
use Rattle.panels.specs.Wall.{Wall, blank, table_of, most_panels}
use Rattle.panels.specs.declared.Panel.{Panel}
use Rattle.panels.specs.WellFormed.{GoodWall, WellFormed}
use Rattle.panels.proofs.Formed.{formed}
use Rattle.panels.proofs.Values.{InRange}
use Rattle.image_forms.specs.declared.Form.{Form}
use Rattle.image_forms.specs.Forms.{head_size, has_field}
use Rattle.refusals.specs.declared.Refusal.{Refusal}
use Rattle.refusals.specs.Refusals.{if_sound}
use Rattle.image_frame.specs.Frame.{form_of, count_of, record_in, records_in, frame_of, IsFrame}
use Rattle.image_frame.proofs.Edges.{frame_is, record_next}
use Rattle.image_record.specs.Head.{id_in, head_in, headed}
use Rattle.image_record.specs.declared.Step.{Step}
use Rattle.image_record.proofs.Gathering.{Gathering, none_gathered}
use Rattle.image_record.proofs.Runs.{run_gathers}
use Rattle.image_record.proofs.Heads.{headed-good}
use Rattle.image_read.specs.Fields.{values_at, fields_from, fields_in}
use Rattle.image_read.specs.Read.{panel_in, read_records, read_of, in_table}

-- what is so of the values of a record's fields
pub record Gathered (form : Form) (profile : Profile) (values : List ℕ) : Type 0 where
  pub in_range : InRange profile values
  pub fresh : (row : ℕ) → has_field form row ≡ false → values_of row values ≡ values_of row (fresh_values profile)

at_last : {form : Form} {profile : Profile} {seen : List Bool} {values : List ℕ} → Gathering form profile seen values → Gathered form profile values
at_last g = record { in_range = g.in_range; fresh = λ row e. g.fresh row (g.fields row e) }

-- only at the end are there values
taken : (s : Step) (vs : List ℕ) {values : List ℕ} → values_at s vs ≡ Ok values → vs ≡ values
taken (Step.Field row) vs e = ap (λ (r : Result (List ℕ) Refusal). result_unwrap_or r []) e
taken (Step.NotAllowed row) vs e = absurd (false≢true (ap is_ok e))
taken Step.Broken vs e = absurd (false≢true (ap is_ok e))
taken Step.End vs e = ap (λ (r : Result (List ℕ) Refusal). result_unwrap_or r []) e

pub fields_gathered : (form : Form) (profile : Profile) (left : List ℕ) {values : List ℕ} → fields_in form profile left ≡ Ok values → Gathered form profile values
unfolding fields_from
fields_gathered form profile left e = subst (Gathered form profile) (taken _ _ e) (at_last (run_gathers form profile _ _ left (none_gathered form profile)))

-- a record that is read has a head that fits, a profile that is known, and fields without a fault
pub record PanelOf (form : Form) (seen : ℕ → Bool) (bytes : List ℕ) (p : Panel) : Type 0 where
  pub profile : Profile
  pub values : List ℕ
  pub head : head_in form seen bytes ≡ Some profile
  pub fields : fields_in form profile (drop (head_size form) bytes) ≡ Ok values
  pub is : headed bytes profile values ≡ p

pub panel_is : (form : Form) (seen : ℕ → Bool) (bytes : List ℕ) {p : Panel} → panel_in form seen bytes ≡ Ok p → PanelOf form seen bytes p
unfolding panel_in
panel_is form seen bytes {p} e = by_head (head_in form seen bytes) refl e
  where
    by_fields : (profile : Profile) → head_in form seen bytes ≡ Some profile → (f : Result (List ℕ) Refusal) → fields_in form profile (drop (head_size form) bytes) ≡ f
        → ◌≡◌ {A = Result Panel Refusal} (if_sound f (λ values. Ok (headed bytes profile values))) (Ok p) → PanelOf form seen bytes p
    by_fields profile h (Ok values) f e =
        record { profile = profile; values = values; head = h; fields = f; is = ap (λ (r : Result Panel Refusal). result_unwrap_or r blank) e }
    by_fields profile h (Err r) f e = absurd (false≢true (ap is_ok e))

    by_head : (n : Option Profile) → head_in form seen bytes ≡ n
        → option_map_or (λ profile. if_sound (fields_in form profile (drop (head_size form) bytes)) (λ values. Ok (headed bytes profile values))) n (Err Refusal.Record) ≡ Ok p
        → PanelOf form seen bytes p
    by_head (Some profile) h e = by_fields profile h _ refl e
    by_head None h e = absurd (false≢true (ap is_ok e))

good_with : (form : Form) (w : Wall) (bytes : List ℕ) {p : Panel} → panel_in form (id_in w) bytes ≡ Ok p → GoodWall w → GoodWall (w ++ p ∷ [])
good_with form w bytes e good =
    let p = panel_is form (id_in w) bytes e in
    subst (λ (p : Panel). GoodWall (w ++ p ∷ [])) p.is
    (headed-good form w bytes p.profile p.head (fields_gathered form p.profile (drop (head_size form) bytes) p.fields).in_range good)

-- record k of an image
pub records-step : (form : Form) (image : List ℕ) (w : Wall) (k : ℕ) → k < count_of image
    → read_records form w (drop k (records_in image))
    ≡ if_sound (panel_in form (id_in w) (record_in image k)) (λ p. read_records form (w ++ p ∷ []) (drop (k + 1) (records_in image)))
unfolding read_records
records-step form image w k h = rw (record_next image k h)

abbrev Formed : Result Wall Refusal → Type 0
Formed r = IfOk r (λ w. WellFormed (table_of w))

records_formed : (form : Form) (w : Wall) (records : List (List ℕ)) → length w + length records ≤ most_panels → GoodWall w → Formed (read_records form w records)
unfolding read_records
records_formed form w [] few good = formed w (omega arith) good
records_formed form w (bytes ∷ records) few good =
    go (panel_in form (id_in w) bytes) (λ p e. records_formed form (w ++ p ∷ []) records (simp length-append (omega arith)) (good_with form w bytes e good))
  where
    go : (r : Result Panel Refusal) → ((p : Panel) → r ≡ Ok p → Formed (read_records form (w ++ p ∷ []) records))
        → Formed (if_sound r (λ p. read_records form (w ++ p ∷ []) records))
    go (Ok p) ih = ih p refl
    go (Err r) ih = tt

-- Whatever the image, the table read is well-formed.
pub read_formed : (image : List ℕ) → IfOk (in_table (read_of image)) WellFormed
unfolding read_of records_in
read_formed image = go (frame_of image) (λ frame e. frame_is image e)
  where
    in_a_table : (r : Result Wall Refusal) → Formed r → IfOk (in_table r) WellFormed
    in_a_table (Ok w) f = f
    in_a_table (Err r) f = tt

    go : (r : Result (List ℕ) Refusal) → ((frame : List ℕ) → r ≡ Ok frame → IsFrame frame)
        → IfOk (in_table (if_sound r (λ frame. read_records (form_of frame) [] (each (record_in frame) (count_of frame))))) WellFormed
    go (Ok frame) is =
        in_a_table (read_records (form_of frame) [] (each (record_in frame) (count_of frame)))
        (records_formed (form_of frame) [] _ (omega (arith, length-each (record_in frame) (count_of frame), (is frame refl).few)) tt)
    go (Err r) is = tt
