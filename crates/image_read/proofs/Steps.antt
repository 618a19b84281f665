-- The walk over a record's fields, step by step. Assumes nothing.
use mathlib.Core.Path.{◌≡◌, refl, ap, ◌∙◌}
use mathlib.Core.Bool.{Bool}
use mathlib.Core.List.{List}
use Prim.Native.Nat.{ℕ}
use Rattle.std.specs.Prelude.{Result, Ok, Err}
use Rattle.settings.specs.declared.Profile.{Profile}
use Rattle.settings.specs.Settings.{values_with}
use Rattle.image_forms.specs.declared.Form.{Form}
use Rattle.refusals.specs.declared.Refusal.{Refusal}
use Rattle.image_record.specs.declared.Step.{Step}
use Rattle.image_record.specs.Field.{values_in, behind, step_at}
use Rattle.image_record.specs.Run.{Run, after_step, run_from}
use Rattle.image_record.proofs.OnTheWay.{seen_with}
use Rattle.image_record.proofs.Runs.{run_step}
use Rattle.image_read.specs.Fields.{values_at, fields_from}

-- what a step comes to
abbrev pub after_field : Step → List ℕ → (ℕ → Result (List ℕ) Refusal) → Result (List ℕ) Refusal
after_field (Step.Field row) values more = more row
after_field (Step.NotAllowed row) values more = Err Refusal.Value
after_field Step.Broken values more = Err Refusal.Field
after_field Step.End values more = Ok values

module _ (form : Form) (profile : Profile) where
  pub fields-step : (seen : List Bool) (values left : List ℕ) (s : Step) → step_at form profile seen values left ≡ s
      → fields_from form profile seen values left
      ≡ after_field s values (λ row. fields_from form profile (seen_with row seen) (values_with row (values_in row left) values) (behind row left))
  unfolding fields_from
  fields-step seen values left s e = ap said (run_step form profile seen values left s e) ∙ go s
    where
      said : Run → Result (List ℕ) Refusal
      said r = values_at r.step r.values

      go : (s : Step) → said (after_step s seen values left (λ row. run_from form profile (seen_with row seen) (values_with row (values_in row left) values) (behind row left)))
          ≡ after_field s values (λ row. said (run_from form profile (seen_with row seen) (values_with row (values_in row left) values) (behind row left)))
      go (Step.Field row) = refl
      go (Step.NotAllowed row) = refl
      go Step.Broken = refl
      go Step.End = refl
