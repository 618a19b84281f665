-- The fields of a record, one after the other. 01, "Setup image, form 1", refusals 17 and 18.
use Rattle.std.specs.Prelude.{ℕ, Bool, false, List, replicate, Result, Ok, Err}
use Rattle.settings.specs.declared.Profile.{Profile}
use Rattle.settings.specs.Settings.{fresh_values, row_count}
use Rattle.image_forms.specs.declared.Form.{Form}
use Rattle.refusals.specs.declared.Refusal.{Refusal}
use Rattle.image_record.specs.declared.Step.{Step}
use Rattle.image_record.specs.Run.{run_from}

-- what a run of fields comes to, by what it stopped at: the values at the end, or a fault; it does not stop at a field that can be
-- taken
abbrev pub values_at : Step → List ℕ → Result (List ℕ) Refusal
values_at (Step.Field row) values = Ok values
values_at (Step.NotAllowed row) values = Err Refusal.Value
values_at Step.Broken values = Err Refusal.Field
values_at Step.End values = Ok values

unfoldable pub fields_from : Form → Profile → List Bool → List ℕ → List ℕ → Result (List ℕ) Refusal
fields_from form profile seen values left =
    let run = run_from form profile seen values left in values_at run.step run.values

-- a record's fields: none seen, and a code not there means its fresh value
abbrev pub fields_in : Form → Profile → List ℕ → Result (List ℕ) Refusal
fields_in form profile left = fields_from form profile (replicate row_count false) (fresh_values profile) left
