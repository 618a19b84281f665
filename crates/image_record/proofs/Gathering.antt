-- What is so of the values gathered on the way through a record's fields. Assumes nothing.
use mathlib.Core.Path.{◌≡◌, refl, sym, ap, ◌∙◌}
use mathlib.Core.Bool.{Bool, true, false, false≢true}
use mathlib.Core.List.{List}
use Prim.Native.Nat.{ℕ, ◌<◌}
use lib.ListN.{length, get_or, replicate, length-set}
use lib.Seq.{get_or-set_other}
use Rattle.settings.specs.declared.Profile.{Profile}
use Rattle.settings.specs.Settings.{fresh_values, values_of, values_with, row_count, tiling_row}
use Rattle.models.specs.Models.{model_in}
use Rattle.models.proofs.Laws.{allowed_many}
use Rattle.panels.proofs.Values.{InRange, other_row, fresh_in_range, with_in_range}
use Rattle.image_forms.specs.declared.Form.{Form}
use Rattle.image_forms.specs.Forms.{has_field}
use Rattle.image_record.specs.Field.{values_in}
use Rattle.image_record.proofs.OnTheWay.{seen_with}
use Rattle.image_record.proofs.Steps.{none_seen, seen_apart, Stands}

-- the values are in range, a row that was not seen is fresh, and none was seen that the form has no field for
pub record Gathering (form : Form) (profile : Profile) (seen : List Bool) (values : List ℕ) : Type 0 where
  pub in_range : InRange profile values
  pub marks : length seen ≡ row_count
  pub fresh : (row : ℕ) → get_or seen row false ≡ false → values_of row values ≡ values_of row (fresh_values profile)
  pub fields : (row : ℕ) → has_field form row ≡ false → get_or seen row false ≡ false

module _ (form : Form) (profile : Profile) where
  -- at first
  pub none_gathered : Gathering form profile (replicate row_count false) (fresh_values profile)
  none_gathered = record { in_range = fresh_in_range profile; marks = refl; fresh = λ row e. refl; fields = λ row e. none_seen row_count row }

  module _ {t : Bool} {seen : List Bool} {values left : List ℕ} {row : ℕ} (g : Gathering form profile seen values) (s : Stands t form profile seen values left row) where
    pub there : row < length seen
    there = rw g.marks s.in_table

    marks_on : length (seen_with row seen) ≡ row_count
    marks_on = length-set seen row true ∙ g.marks

    fields_on : (r : ℕ) → has_field form r ≡ false → get_or (seen_with row seen) r false ≡ false
    fields_on r e = get_or-set_other seen row r true false (λ k. false≢true (sym e ∙ ap (has_field form) k ∙ s.has)) ∙ g.fields r e

    -- a field that is not allowed is seen, and its row stays as it is
    pub passed_on : Gathering form profile (seen_with row seen) values
    passed_on = record {
      in_range = g.in_range;
      marks = marks_on;
      fresh = λ r e. g.fresh r (seen_apart row seen r there e).1;
      fields = fields_on;
    }

  -- one that is taken is seen, and its values stand in its row
  pub taken_on : {seen : List Bool} {values left : List ℕ} {row : ℕ} → Gathering form profile seen values → Stands true form profile seen values left row
      → Gathering form profile (seen_with row seen) (values_with row (values_in row left) values)
  taken_on {seen} {values} {left} {row} g s =
      let n = allowed_many (model_in profile values) row (values_in row left) s.allowed in
      let on = passed_on g s in
      record {
        in_range = with_in_range g.in_range row (values_in row left) s.allowed (λ k. g.fresh tiling_row (s.free.first k));
        marks = on.marks;
        fresh = λ r e.
            other_row row (values_in row left) values n g.in_range.full r (seen_apart row seen r (there g s) e).0 ∙ on.fresh r e;
        fields = on.fields;
      }
