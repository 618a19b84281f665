-- The field at the front of a record's bytes, by the record's form and profile. 01, "Setup image, form 1", refusals 17 and 18;
-- 02, A2 and A6: the kind is a field too, by which a tiling behind it is judged.
use Rattle.std.specs.Prelude.{ℕ, ◌+◌, Bool, false, cond, not, ◌&&◌, ◌||◌, List, ltb, eqb, length, get_or, take, drop, Option, Some, None}
use Rattle.settings.specs.declared.Profile.{Profile}
use Rattle.codes.specs.declared.Code.{Code}
use Rattle.settings.specs.Settings.{byte_count, kind_row, tiling_row}
use Rattle.codes.specs.Found.{field_by}
use Rattle.models.specs.Models.{allowed_for, model_in}
use Rattle.image_forms.specs.declared.Form.{Form}
use Rattle.image_forms.specs.Forms.{has_field}
use Rattle.image_record.specs.declared.Step.{Step}

-- the values of a row's field at the front of the bytes that are left: behind set code and length
abbrev pub values_in : ℕ → List ℕ → List ℕ
values_in row left = take (byte_count row) (drop 2 left)

-- what is left behind it
abbrev pub behind : ℕ → List ℕ → List ℕ
behind row left = drop (2 + byte_count row) left

-- a row's field is cut off, or its length byte is not the row's count
abbrev pub misfits : ℕ → List ℕ → Bool
misfits row left = ltb (length left) (2 + byte_count row) || not (eqb (get_or left 1 0) (byte_count row))

-- a row has no field here: none in this form, or it was seen before in this record, or it is a kind behind the tiling
abbrev pub misplaced : Form → List Bool → ℕ → Bool
misplaced form seen row = not (has_field form row) || (get_or seen row false || (eqb row kind_row && get_or seen tiling_row false))

-- the field of a code that was found: 17, then 18, by the profile and by the kind among the values so far
abbrev pub field_of : Form → Profile → Option Code → List Bool → List ℕ → List ℕ → Step
field_of form profile (Some (Code.Set row)) seen values left =
    cond (misplaced form seen row || misfits row left) Step.Broken
    (cond (allowed_for (model_in profile values) row (values_in row left)) (Step.Field row) (Step.NotAllowed row))
field_of form profile (Some (Code.Get row)) seen values left = Step.Broken
field_of form profile None seen values left = Step.Broken

-- what stands at the front of the bytes that are left
unfoldable pub step_at : Form → Profile → List Bool → List ℕ → List ℕ → Step
step_at form profile seen values left = cond (eqb (length left) 0) Step.End (field_of form profile (field_by (get_or left 0 0)) seen values left)
