-- What is kept of a record's fields, and their faults in order. 02, A7: each field is kept up to the first with fault 17, the rest
-- is fresh, and one with fault 18 gets the fresh value in its place and counts as seen.
use Rattle.std.specs.Prelude.{ℕ, zero, suc, ◌+◌, Bool, true, false, List, [], ◌∷◌, get_or, set, replicate}
use Rattle.settings.specs.declared.Profile.{Profile}
use Rattle.settings.specs.Settings.{fresh_values, values_of, values_with, row_count}
use Rattle.image_forms.specs.declared.Form.{Form}
use Rattle.image_faults.specs.declared.Fault.{Fault}
use Rattle.image_record.specs.declared.Step.{Step}
use Rattle.image_record.specs.Field.{behind}
use Rattle.image_record.specs.Run.{run_from}

pub record Kept : Type 0 where
  pub values : List ℕ
  pub faults : List Fault

-- one more fault, before the others
abbrev pub telling : Fault → Kept → Kept
telling fault kept = record { values = kept.values; faults = fault ∷ kept.faults }

-- What the step at which a run of fields stopped comes to: a field that is not allowed is told and goes on, and a broken one is
-- told and ends it. The code is the byte in the code's place. A run does not stop at a field that can be taken.
abbrev pub kept_by : Step → List ℕ → ℕ → (ℕ → Kept) → Kept
kept_by (Step.Field row) values code more = record { values = values; faults = [] }
kept_by (Step.NotAllowed row) values code more = telling (Fault.NotAllowed code) (more row)
kept_by Step.Broken values code more = record { values = values; faults = Fault.Broken code ∷ [] }
kept_by Step.End values code more = record { values = values; faults = [] }

-- run after run, n at most: the row that is not allowed is seen, and the fresh values stand at its place
unfoldable pub kept_from : Form → Profile → ℕ → List Bool → List ℕ → List ℕ → Kept
kept_from form profile zero seen values left = record { values = values; faults = [] }
kept_from form profile (suc n) seen values left =
    let run = run_from form profile seen values left in
    kept_by run.step run.values (get_or run.left 0 0)
    (λ row. kept_from form profile n (set run.seen row true) (values_with row (values_of row (fresh_values profile)) run.values) (behind row run.left))

-- A row is met once, and then a field is broken or there is none: one run more than there are rows is enough.
abbrev pub most_faults : ℕ
most_faults = row_count + 1

-- none seen, and a code not there means its fresh value
abbrev pub kept_of : Form → Profile → List ℕ → Kept
kept_of form profile left = kept_from form profile most_faults (replicate row_count false) (fresh_values profile) left
