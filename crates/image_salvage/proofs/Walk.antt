-- The walk over a record's fields, step by step. Assumes nothing.
use mathlib.Core.Path.{◌≡◌, refl, sym, ap, ◌∙◌}
use mathlib.Core.Bool.{Bool, false}
use mathlib.Core.List.{List, [], ◌∷◌, ◌++◌, append-nil, flatten}
use Prim.Native.Nat.{ℕ, suc}
use lib.ListN.{get_or}
use Rattle.settings.specs.declared.Profile.{Profile}
use Rattle.settings.specs.Settings.{fresh_values, values_of, values_with}
use Rattle.panels.proofs.Values.{with_own}
use Rattle.image_forms.specs.declared.Form.{Form}
use Rattle.image_faults.specs.declared.Fault.{Fault}
use Rattle.image_faults.specs.Lines.{line_of}
use Rattle.image_record.specs.declared.Step.{Step}
use Rattle.image_record.specs.Field.{behind}
use Rattle.image_record.specs.Run.{Run, run_from}
use Rattle.image_record.proofs.OnTheWay.{seen_with}
use Rattle.image_record.proofs.Steps.{Stands, field_step, stands}
use Rattle.image_record.proofs.Gathering.{Gathering}
use Rattle.image_record.proofs.Runs.{run_stopped, run_gathers}
use Rattle.image_salvage.specs.Kept.{telling, kept_by, kept_from}
use Rattle.image_salvage.specs.Salvaged.{lines_of}

-- the lines of a fault and of those behind it
pub lines_more : (number : ℕ) (fault : Fault) (faults : List Fault) → lines_of number (fault ∷ faults) ≡ line_of number fault ++ lines_of number faults
unfolding lines_of flatten
lines_more number fault faults = refl

pub lines_none : (number : ℕ) → lines_of number [] ≡ []
unfolding lines_of flatten
lines_none number = refl

pub lines_one : (number : ℕ) (fault : Fault) → lines_of number (fault ∷ []) ≡ line_of number fault
lines_one number fault = lines_more number fault [] ∙ rw (lines_none number) (append-nil (line_of number fault))

module _ (form : Form) (profile : Profile) (n : ℕ) (seen : List Bool) (values left : List ℕ) where
  abbrev run : Run
  run = run_from form profile seen values left

  -- one run more
  pub kept_step : (s : Step) → run.step ≡ s
      → kept_from form profile (suc n) seen values left
      ≡ kept_by s run.values (get_or run.left 0 0)
      (λ row. kept_from form profile n (seen_with row run.seen) (values_with row (values_of row (fresh_values profile)) run.values) (behind row run.left))
  unfolding kept_from
  kept_step s e = rw e

  -- what stands behind it
  pub behind_run : (b : Bool) (row : ℕ) → run.step ≡ field_step b row → Stands b form profile run.seen run.values run.left row
  behind_run b row e = stands form profile b run.seen run.values run.left row ((run_stopped form profile seen values left).there ∙ e)

  -- a row that is not allowed was not seen, so it is fresh, and stays as it is
  pub kept_passed : (row : ℕ) → Gathering form profile seen values → run.step ≡ Step.NotAllowed row
      → kept_from form profile (suc n) seen values left
      ≡ telling (Fault.NotAllowed (get_or run.left 0 0)) (kept_from form profile n (seen_with row run.seen) run.values (behind row run.left))
  kept_passed row g e =
      let fresh = (run_gathers form profile seen values left g).fresh row (behind_run false row e).free.new in
      let same = ap (λ (vs : List ℕ). values_with row vs run.values) (sym fresh) ∙ with_own row run.values in
      kept_step (Step.NotAllowed row) e
      ∙ ap (λ (vs : List ℕ). telling (Fault.NotAllowed (get_or run.left 0 0)) (kept_from form profile n (seen_with row run.seen) vs (behind row run.left))) same
