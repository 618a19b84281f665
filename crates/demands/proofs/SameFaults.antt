-- Reader and salvage never disagree. Assumes nothing.
use mathlib.Core.Path.{◌≡◌, refl, sym, ap, ◌∙◌}
use mathlib.Core.Bool.{false, cond, false≢true}
use mathlib.Core.List.{List, [], ◌∷◌, ◌++◌}
use Prim.Native.Nat.{ℕ, suc}
use native.Mathlib.Omega.{arith}
use lib.ListN.{drop, replicate}
use Rattle.std.specs.Prelude.{Option, Some, None, Result, Ok, Err, is_ok}
use Rattle.std.specs.Result.{result_unwrap_or}
use Rattle.settings.specs.declared.Profile.{Profile}
use Rattle.settings.specs.Settings.{fresh_values, row_count}
use Rattle.panels.specs.declared.Panel.{Panel}
use Rattle.panels.specs.Wall.{Wall}
use Rattle.image_forms.specs.declared.Form.{Form}
use Rattle.image_forms.specs.Forms.{head_size}
use Rattle.image_faults.specs.declared.Fault.{Fault}
use Rattle.refusals.specs.declared.Refusal.{Refusal}
use Rattle.refusals.specs.Refusals.{refusal_number, number_of, if_sound}
use Rattle.image_frame.specs.Frame.{form_of, frame_of, records_in}
use Rattle.image_frame.proofs.Edges.{sound, frame_same}
use Rattle.image_record.specs.declared.Step.{Step}
use Rattle.image_record.specs.Head.{id_in, head_in, headed}
use Rattle.image_record.specs.Run.{Run, run_from}
use Rattle.image_record.proofs.Runs.{run_stopped}
use Rattle.image_read.specs.Fields.{values_at, fields_from, fields_in}
use Rattle.image_read.specs.Read.{panel_in, read_records, read_of}
use Rattle.image_salvage.specs.Kept.{Kept, kept_of}
use Rattle.image_salvage.specs.Salvaged.{Salvage, salvage_in, behind_faults, salvaged_from, salvage_of, text_from}
use Rattle.image_salvage.proofs.Walk.{kept_step, lines_none}
use Rattle.image_salvage.proofs.Sound.{record_dropped, record_kept}
use Rattle.demands.specs.Salvage.{first_fault, SameFault, SoundKept}

-- the first of some faults
first : List Fault → ℕ
first faults = first_fault (faults ∷ [])

first_of : (faults : List Fault) (rest : List (List Fault)) → (first faults ≡ 0 → ⊥) → first_fault (faults ∷ rest) ≡ first faults
unfolding first
first_of [] rest some = absurd (some refl)
first_of (fault ∷ faults) rest some = refl

-- each refusal has a number
some_number : (r : Refusal) → refusal_number r ≡ 0 → ⊥
some_number Refusal.TooShort e = omega arith
some_number Refusal.OtherForm e = omega arith
some_number Refusal.TooMany e = omega arith
some_number Refusal.NoStarts e = omega arith
some_number Refusal.Starts e = omega arith
some_number Refusal.Record e = omega arith
some_number Refusal.Field e = omega arith
some_number Refusal.Value e = omega arith

-- of a record's fields
module _ (form : Form) (profile : Profile) (left : List ℕ) where
  abbrev run : Run
  run = run_from form profile (replicate row_count false) (fresh_values profile) left

  record FieldsAgree : Type 0 where
    number : number_of (fields_in form profile left) ≡ first (kept_of form profile left).faults
    kept : (values : List ℕ) → fields_in form profile left ≡ Ok values → ((kept_of form profile left).values ≡ values) × ((kept_of form profile left).faults ≡ [])

  fields_agree : FieldsAgree
  unfolding fields_from first
  fields_agree = go run.step refl
    where
      stopped : {s : Step} → run.step ≡ s → values_at run.step run.values ≡ values_at s run.values
      stopped e = ap (λ (s : Step). values_at s run.values) e

      go : (s : Step) → run.step ≡ s → FieldsAgree
      go (Step.Field row) e = absurd ((run_stopped form profile (replicate row_count false) (fresh_values profile) left).no_field row e)
      go (Step.NotAllowed row) e = record {
        number = ap number_of (stopped e) ∙ ap (λ (k : Kept). first k.faults) (sym (kept_step form profile _ _ _ left (Step.NotAllowed row) e));
        kept = λ values s. absurd (false≢true (ap is_ok (sym (stopped e) ∙ s)));
      }
      go Step.Broken e = record {
        number = ap number_of (stopped e) ∙ ap (λ (k : Kept). first k.faults) (sym (kept_step form profile _ _ _ left Step.Broken e));
        kept = λ values s. absurd (false≢true (ap is_ok (sym (stopped e) ∙ s)));
      }
      go Step.End e = record {
        number = ap number_of (stopped e) ∙ ap (λ (k : Kept). first k.faults) (sym (kept_step form profile _ _ _ left Step.End e));
        kept = λ values s. (
          ap (λ (k : Kept). k.values) (kept_step form profile _ _ _ left Step.End e) ∙ ap (λ (r : Result (List ℕ) Refusal). result_unwrap_or r []) (sym (stopped e) ∙ s),
          ap (λ (k : Kept). k.faults) (kept_step form profile _ _ _ left Step.End e),
        );
      }

-- a reading and a salvage of the records that are left
record Agree (r : Result Wall Refusal) (s : Salvage) : Type 0 where
  number : number_of r ≡ first_fault s.faults
  kept : (w : Wall) → r ≡ Ok w → (s.wall ≡ w) × ((k : ℕ) → text_from k s.faults ≡ [])

-- a record without a fault, and the others behind it
module _ (form : Form) (w : Wall) (bytes : List ℕ) (records : List (List ℕ)) where
  first_refused : {why : Refusal} → panel_in form (id_in w) bytes ≡ Err why → read_records form w (bytes ∷ records) ≡ Err why
  unfolding read_records
  first_refused e = rw e

  first_read : {p : Panel} → panel_in form (id_in w) bytes ≡ Ok p → read_records form w (bytes ∷ records) ≡ read_records form (w ++ p ∷ []) records
  unfolding read_records
  first_read e = rw e

  -- the record is dropped
  agree_dropped : head_in form (id_in w) bytes ≡ None → Agree (read_records form w (bytes ∷ records)) (salvaged_from form w (bytes ∷ records))
  unfolding panel_in
  agree_dropped e =
      let read = first_refused {why = Refusal.Record} (rw e) in
      let salvaged = record_dropped form w bytes records e in
      record {
        number = ap number_of read ∙ ap (λ (s : Salvage). first_fault s.faults) (sym salvaged);
        kept = λ v s. absurd (false≢true (ap is_ok (sym read ∙ s)));
      }

  module _ (profile : Profile) (e : head_in form (id_in w) bytes ≡ Some profile) where
    abbrev left : List ℕ
    left = drop (head_size form) bytes

    abbrev faults : List Fault
    faults = (kept_of form profile left).faults

    abbrev wall : Wall
    wall = w ++ headed bytes profile (kept_of form profile left).values ∷ []

    panel_is : panel_in form (id_in w) bytes ≡ if_sound (fields_in form profile left) (λ values. Ok (headed bytes profile values))
    unfolding panel_in
    panel_is = rw e

    salvaged : salvaged_from form w (bytes ∷ records) ≡ behind_faults faults (salvaged_from form wall records)
    salvaged = record_kept form w bytes records profile e

    -- it has a fault, which is the first
    agree_faulty : (why : Refusal) → fields_in form profile left ≡ Err why → Agree (read_records form w (bytes ∷ records)) (salvaged_from form w (bytes ∷ records))
    agree_faulty why f =
        let read = first_refused {why = why} (panel_is ∙ ap (λ (r : Result (List ℕ) Refusal). if_sound r (λ values. Ok (headed bytes profile values))) f) in
        let number : refusal_number why ≡ first faults = sym (ap number_of f) ∙ (fields_agree form profile left).number in
        let some : first faults ≡ 0 → ⊥ = λ z. some_number why (number ∙ z) in
        record {
          number = ap number_of read ∙ number ∙ sym (first_of faults (salvaged_from form wall records).faults some) ∙ ap (λ (s : Salvage). first_fault s.faults) (sym salvaged);
          kept = λ v s. absurd (false≢true (ap is_ok (sym read ∙ s)));
        }

    -- it has none, and the others decide
    agree_sound : (values : List ℕ) → fields_in form profile left ≡ Ok values → Agree (read_records form wall records) (salvaged_from form wall records)
        → Agree (read_records form w (bytes ∷ records)) (salvaged_from form w (bytes ∷ records))
    unfolding text_from
    agree_sound values f ih =
        let (same, none) = (fields_agree form profile left).kept values f in
        let panel : panel_in form (id_in w) bytes ≡ Ok (headed bytes profile values) =
        panel_is ∙ ap (λ (r : Result (List ℕ) Refusal). if_sound r (λ values. Ok (headed bytes profile values))) f in
        let read : read_records form w (bytes ∷ records) ≡ read_records form wall records =
        first_read panel ∙ ap (λ (vs : List ℕ). read_records form (w ++ headed bytes profile vs ∷ []) records) (sym same) in
        let saved : salvaged_from form w (bytes ∷ records) ≡ behind_faults [] (salvaged_from form wall records) =
        salvaged ∙ ap (λ (fs : List Fault). behind_faults fs (salvaged_from form wall records)) none in
        record {
          number = ap number_of read ∙ ih.number ∙ ap (λ (s : Salvage). first_fault s.faults) (sym saved);
          kept = λ v z.
              let (walls, text) = ih.kept v (sym read ∙ z) in (
                ap (λ (s : Salvage). s.wall) saved ∙ walls,
                λ k. ap (λ (s : Salvage). text_from k s.faults) saved ∙ rw (lines_none k) (text (suc k)),
              );
        }

agree_from : (form : Form) (w : Wall) (records : List (List ℕ)) → Agree (read_records form w records) (salvaged_from form w records)
unfolding read_records salvaged_from text_from
agree_from form w [] = record { number = refl; kept = λ v s. (ap (λ (r : Result Wall Refusal). result_unwrap_or r w) s, λ k. refl) }
agree_from form w (bytes ∷ records) = go (head_in form (id_in w) bytes) refl (λ v. agree_from form v records)
  where
    go : (n : Option Profile) → head_in form (id_in w) bytes ≡ n → ((v : Wall) → Agree (read_records form v records) (salvaged_from form v records))
        → Agree (read_records form w (bytes ∷ records)) (salvaged_from form w (bytes ∷ records))
    go None e ih = agree_dropped form w bytes records e
    go (Some profile) e ih = by_fields (fields_in form profile (drop (head_size form) bytes)) refl
      where
        by_fields : (f : Result (List ℕ) Refusal) → fields_in form profile (drop (head_size form) bytes) ≡ f
            → Agree (read_records form w (bytes ∷ records)) (salvaged_from form w (bytes ∷ records))
        by_fields (Ok values) f = agree_sound form w bytes records profile e values f (ih _)
        by_fields (Err why) f = agree_faulty form w bytes records profile e why f

pub same_fault : SameFault
unfolding read_of salvage_of
same_fault image e = let frame = (sound image e).1 in rw frame (agree_from (form_of image) [] (records_in image)).number

pub sound-kept : SoundKept
unfolding read_of salvage_of
sound-kept image w s = go (frame_of image) (λ frame e. frame_same image e) s
  where
    go : (r : Result (List ℕ) Refusal) → ((frame : List ℕ) → r ≡ Ok frame → image ≡ frame)
        → if_sound r (λ frame. read_records (form_of frame) [] (records_in frame)) ≡ Ok w
        → let s = cond (is_ok r) (salvage_in image) (record { wall = []; faults = [] }) in (s.wall ≡ w) × (text_from 1 s.faults ≡ [])
    go (Ok frame) same s = let (wall, text) = (agree_from (form_of image) [] (records_in image)).kept w (rw (same frame refl) s) in (wall, text 1)
    go (Err r) same s = absurd (false≢true (ap is_ok s))
