-- How many faults a record can have, and how long its lines are. Assumes nothing.
use mathlib.Core.Bool.{Bool}
use mathlib.Core.List.{List, [], ◌∷◌}
use Prim.Native.Nat.{ℕ, zero, suc, ◌*◌, ◌≤◌}
use native.Mathlib.Omega.{arith}
use lib.ListN.{length, get_or, length-append}
use Rattle.settings.specs.declared.Profile.{Profile}
use Rattle.settings.specs.Settings.{fresh_values, values_of, values_with}
use Rattle.image_forms.specs.declared.Form.{Form}
use Rattle.image_faults.specs.declared.Fault.{Fault}
use Rattle.image_faults.specs.Lines.{line_of, longest_line}
use Rattle.image_faults.proofs.Laws.{line_short}
use Rattle.image_record.specs.declared.Step.{Step}
use Rattle.image_record.specs.Field.{behind}
use Rattle.image_record.specs.Run.{run_from}
use Rattle.image_record.proofs.OnTheWay.{seen_with}
use Rattle.image_salvage.specs.Kept.{kept_by, kept_from}
use Rattle.image_salvage.specs.Salvaged.{lines_of}
use Rattle.image_salvage.proofs.Walk.{lines_more, lines_none}

-- each run is followed by one at most
pub faults-few : (form : Form) (profile : Profile) (n : ℕ) (seen : List Bool) (values left : List ℕ) → length (kept_from form profile n seen values left).faults ≤ n
unfolding kept_from
faults-few form profile zero seen values left = omega arith
faults-few form profile (suc n) seen values left = go (run_from form profile seen values left).step (λ seen values left. faults-few form profile n seen values left)
  where
    go : (s : Step) → ((seen : List Bool) (values left : List ℕ) → length (kept_from form profile n seen values left).faults ≤ n)
        → let run = run_from form profile seen values left in
        length (kept_by s run.values (get_or run.left 0 0)
        (λ row. kept_from form profile n (seen_with row run.seen) (values_with row (values_of row (fresh_values profile)) run.values) (behind row run.left))).faults ≤ suc n
    go (Step.Field row) ih = omega arith
    go (Step.NotAllowed row) ih =
        let run = run_from form profile seen values left in
        omega (arith, ih (seen_with row run.seen) (values_with row (values_of row (fresh_values profile)) run.values) (behind row run.left))
    go Step.Broken ih = omega arith
    go Step.End ih = omega arith

pub lines_short : (number : ℕ) (faults : List Fault) → length (lines_of number faults) ≤ longest_line * length faults
lines_short number [] = rw (lines_none number) (omega arith)
lines_short number (fault ∷ faults) =
    rw (lines_more number fault faults, length-append (line_of number fault) (lines_of number faults))
    (omega (arith, line_short number fault, lines_short number faults))
