-- A record salvaged by the code, which has the IDs seen before marked.
use Rattle.std.specs.Option.{option_map_or}
use Rattle.std.specs.Prelude.{ℕ, ◌+◌, Bool, List, [], ◌∷◌, length, drop, option_map}
use Rattle.image_forms.specs.declared.Form.{Form}
use Rattle.image_forms.specs.Forms.{head_size}
use Rattle.image_faults.specs.declared.Fault.{Fault}
use Rattle.image_record.specs.Head.{marked, head_in, headed}
use Rattle.image_salvage.specs.declared.KeptRecord.{KeptRecord}
use Rattle.image_salvage.specs.Kept.{kept_of}
use Rattle.image_salvage.specs.Salvaged.{lines_of}

unfoldable pub faults_by : Form → List Bool → List ℕ → List Fault
faults_by form seen bytes =
    option_map_or (λ profile. (kept_of form profile (drop (head_size form) bytes)).faults) (head_in form (marked seen) bytes) (Fault.Dropped ∷ [])

unfoldable pub record_by : Form → ℕ → ℕ → List Bool → List ℕ → KeptRecord
record_by form number from seen bytes = record {
  panel = option_map (λ profile. headed bytes profile (kept_of form profile (drop (head_size form) bytes)).values) (head_in form (marked seen) bytes);
  next = from + length (lines_of number (faults_by form seen bytes));
}
