-- The fields of a record that are taken, one after the other, up to one that is not. 01, "Setup image, form 1".
use Rattle.std.specs.Prelude.{ℕ, zero, suc, ◌-◌, Bool, true, List, length, set}
use Rattle.settings.specs.declared.Profile.{Profile}
use Rattle.settings.specs.Settings.{values_with}
use Rattle.image_forms.specs.declared.Form.{Form}
use Rattle.image_record.specs.declared.Step.{Step}
use Rattle.image_record.specs.declared.Stop.{Stop}
use Rattle.image_record.specs.Field.{values_in, behind, step_at}

-- what stands at the front of the bytes that are left, the rows that were seen, and the values gathered
pub record Run : Type 0 where
  pub step : Step
  pub seen : List Bool
  pub values : List ℕ
  pub left : List ℕ

abbrev pub stopped : Step → List Bool → List ℕ → List ℕ → Run
stopped step seen values left = record { step = step; seen = seen; values = values; left = left }

-- what a step comes to: a field goes on, and anything else stops the walk
abbrev pub after_step : Step → List Bool → List ℕ → List ℕ → (ℕ → Run) → Run
after_step (Step.Field row) seen values left more = more row
after_step (Step.NotAllowed row) seen values left more = stopped (Step.NotAllowed row) seen values left
after_step Step.Broken seen values left more = stopped Step.Broken seen values left
after_step Step.End seen values left more = stopped Step.End seen values left

-- field after field, n steps at most: a row that is taken is seen, its values stand at its place, and it is left behind
unfoldable pub ran_for : Form → Profile → ℕ → List Bool → List ℕ → List ℕ → Run
ran_for form profile zero seen values left = stopped Step.End seen values left
ran_for form profile (suc n) seen values left =
    after_step (step_at form profile seen values left) seen values left
    (λ row. ran_for form profile n (set seen row true) (values_with row (values_in row left) values) (behind row left))

-- A step leaves at least a byte behind, so one step more than there are bytes is enough.
unfoldable pub run_from : Form → Profile → List Bool → List ℕ → List ℕ → Run
run_from form profile seen values left = ran_for form profile (suc (length left)) seen values left

-- what the code answers: how many bytes were taken, and what stands behind them
abbrev pub stop_of : List ℕ → Run → Stop
stop_of left run = record { step = run.step; taken = length left - length run.left }
