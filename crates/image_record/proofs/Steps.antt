-- What stands at the front of a record's bytes: a row's field, taken or not allowed. Assumes nothing.
use mathlib.Core.Path.{◌≡◌, refl, sym, ap, subst, ◌∙◌}
use mathlib.Core.Bool.{Bool, true, false, cond, not, ◌&&◌, ◌||◌, false≢true}
use mathlib.Core.List.{List}
use Prim.Native.Nat.{ℕ, zero, suc, ◌+◌, ◌≤◌, ◌<◌}
use native.Mathlib.Omega.{arith}
use borrow.Author.Tests.{ltb-false, eqb-true, eqb-false, eq-eqb, ne_eqb, le-ltb}
use lib.Dec.{ltb, eqb}
use lib.ListN.{length, get_or, replicate, length-drop}
use lib.Seq.{get_or-set_same, get_or-set_other}
use Rattle.settings.specs.declared.Profile.{Profile}
use Rattle.std.proofs.Common.{Option, Some, None}
use Rattle.codes.specs.declared.Code.{Code}
use Rattle.settings.specs.Settings.{set_code, byte_count, row_count, kind_row, tiling_row}
use Rattle.codes.specs.Found.{field_by}
use Rattle.models.specs.Models.{allowed_for, model_in}
use Rattle.codes.proofs.Laws.{IsField, field_right, field_found}
use Rattle.image_forms.specs.declared.Form.{Form}
use Rattle.image_forms.specs.Forms.{has_field}
use Rattle.image_record.specs.declared.Step.{Step}
use Rattle.image_record.specs.Field.{values_in, behind, misplaced, field_of, step_at}
use Rattle.image_record.proofs.OnTheWay.{seen_with}

-- at first no row is seen; and a row that is not seen with another is not that one, and was not seen before
pub none_seen : (n row : ℕ) → get_or (replicate n false) row false ≡ false
none_seen zero row = refl
none_seen (suc n) zero = refl
none_seen (suc n) (suc row) = none_seen n row

pub seen_apart : (row : ℕ) (seen : List Bool) (r : ℕ) → row < length seen → get_or (seen_with row seen) r false ≡ false
    → (r ≡ row → ⊥) × (get_or seen r false ≡ false)
seen_apart row seen r h e = (apart, sym (get_or-set_other seen row r true false apart) ∙ e)
  where
    apart : r ≡ row → ⊥
    apart same = false≢true (sym e ∙ ap (λ (k : ℕ). get_or (seen_with row seen) k false) same ∙ get_or-set_same seen row true false h)

-- a row that can still be taken: it is new, and no tiling is before a kind
pub record Free (seen : List Bool) (row : ℕ) : Type 0 where
  pub new : get_or seen row false ≡ false
  pub first : row ≡ kind_row → get_or seen tiling_row false ≡ false

free : (form : Form) (seen : List Bool) (row : ℕ) → misplaced form seen row ≡ false → (has_field form row ≡ true) × Free seen row
free form seen row e = go (has_field form row) (get_or seen row false) (eqb row kind_row) refl refl refl e
  where
    go : (a b d : Bool) → has_field form row ≡ a → get_or seen row false ≡ b → eqb row kind_row ≡ d
        → not a || (b || (d && get_or seen tiling_row false)) ≡ false → (has_field form row ≡ true) × Free seen row
    go false b d ea eb ed e = absurd (false≢true (sym e))
    go true true d ea eb ed e = absurd (false≢true (sym e))
    go true false true ea eb ed e = (ea, record { new = eb; first = λ _. e })
    go true false false ea eb ed e = (ea, record { new = eb; first = λ k. absurd (false≢true (sym ed ∙ eq-eqb row kind_row k)) })

placed : (form : Form) {seen : List Bool} {row : ℕ} → has_field form row ≡ true → Free seen row → misplaced form seen row ≡ false
placed form {seen} {row} has f = rw (has, f.new) (go (eqb row kind_row) refl)
  where
    go : (t : Bool) → eqb row kind_row ≡ t → t && get_or seen tiling_row false ≡ false
    go true e = f.first (eqb-true _ _ e)
    go false e = refl

-- a whole field of a row stands at the front, and its values are allowed or not
pub record Stands (t : Bool) (form : Form) (profile : Profile) (seen : List Bool) (values left : List ℕ) (row : ℕ) : Type 0 where
  pub in_table : row < row_count
  pub code : get_or left 0 0 ≡ set_code row
  pub has : has_field form row ≡ true
  pub free : Free seen row
  pub whole : 2 + byte_count row ≤ length left
  pub count : get_or left 1 0 ≡ byte_count row
  pub allowed : allowed_for (model_in profile values) row (values_in row left) ≡ t

-- as the step says
abbrev pub field_step : Bool → ℕ → Step
field_step t row = cond t (Step.Field row) (Step.NotAllowed row)

module _ (form : Form) (profile : Profile) where
  pub stands : (t : Bool) (seen : List Bool) (values left : List ℕ) (row : ℕ) → step_at form profile seen values left ≡ field_step t row
      → Stands t form profile seen values left row
  unfolding step_at
  stands t seen values left row e = by_length (eqb (length left) 0) t e
    where
      found_so : (r : ℕ) → field_by (get_or left 0 0) ≡ Some (Code.Set r) → (t : Bool) → misplaced form seen r ≡ false → ltb (length left) (2 + byte_count r) ≡ false
          → eqb (get_or left 1 0) (byte_count r) ≡ true → allowed_for (model_in profile values) r (values_in r left) ≡ t → r ≡ row
          → Stands t form profile seen values left row
      found_so r found t ea eb ed eg same =
          let (h, code) = subst (IsField (get_or left 0 0)) found (field_right (get_or left 0 0)) in
          let (has, new) = free form seen r ea in
          subst (Stands t form profile seen values left) same
          (record { in_table = h; code = sym code; has = has; free = new; whole = ltb-false _ _ eb; count = eqb-true _ _ ed; allowed = eg })

      by_tests : (r : ℕ) → field_by (get_or left 0 0) ≡ Some (Code.Set r) → (a b d g t : Bool) → misplaced form seen r ≡ a → ltb (length left) (2 + byte_count r) ≡ b
          → eqb (get_or left 1 0) (byte_count r) ≡ d → allowed_for (model_in profile values) r (values_in r left) ≡ g
          → cond (a || (b || not d)) Step.Broken (cond g (Step.Field r) (Step.NotAllowed r)) ≡ field_step t row → Stands t form profile seen values left row
      by_tests r found true b d g true ea eb ed eg e = let z : ◌≡◌ {A = ℕ} 0 1 = cc in absurd (omega arith)
      by_tests r found true b d g false ea eb ed eg e = let z : ◌≡◌ {A = ℕ} 0 1 = cc in absurd (omega arith)
      by_tests r found false true d g true ea eb ed eg e = let z : ◌≡◌ {A = ℕ} 0 1 = cc in absurd (omega arith)
      by_tests r found false true d g false ea eb ed eg e = let z : ◌≡◌ {A = ℕ} 0 1 = cc in absurd (omega arith)
      by_tests r found false false false g true ea eb ed eg e = let z : ◌≡◌ {A = ℕ} 0 1 = cc in absurd (omega arith)
      by_tests r found false false false g false ea eb ed eg e = let z : ◌≡◌ {A = ℕ} 0 1 = cc in absurd (omega arith)
      by_tests r found false false true false true ea eb ed eg e = let z : ◌≡◌ {A = ℕ} 0 1 = cc in absurd (omega arith)
      by_tests r found false false true true false ea eb ed eg e = let z : ◌≡◌ {A = ℕ} 0 1 = cc in absurd (omega arith)
      by_tests r found false false true true true ea eb ed eg e = found_so r found true ea eb ed eg cc
      by_tests r found false false true false false ea eb ed eg e = found_so r found false ea eb ed eg cc

      by_found : (f : Option Code) (t : Bool) → field_by (get_or left 0 0) ≡ f → field_of form profile f seen values left ≡ field_step t row → Stands t form profile seen values left row
      by_found (Some (Code.Set r)) t found e = by_tests r found _ _ _ _ t refl refl refl refl e
      by_found (Some (Code.Get r)) true found e = let z : ◌≡◌ {A = ℕ} 0 1 = cc in absurd (omega arith)
      by_found (Some (Code.Get r)) false found e = let z : ◌≡◌ {A = ℕ} 0 1 = cc in absurd (omega arith)
      by_found None true found e = let z : ◌≡◌ {A = ℕ} 0 1 = cc in absurd (omega arith)
      by_found None false found e = let z : ◌≡◌ {A = ℕ} 0 1 = cc in absurd (omega arith)

      by_length : (n t : Bool) → cond n Step.End (field_of form profile (field_by (get_or left 0 0)) seen values left) ≡ field_step t row → Stands t form profile seen values left row
      by_length true true e = let z : ◌≡◌ {A = ℕ} 0 1 = cc in absurd (omega arith)
      by_length true false e = let z : ◌≡◌ {A = ℕ} 0 1 = cc in absurd (omega arith)
      by_length false t e = by_found _ t refl e

  -- and the other way round
  pub stands_it : (t : Bool) {seen : List Bool} {values left : List ℕ} {row : ℕ} → Stands t form profile seen values left row
      → step_at form profile seen values left ≡ field_step t row
  unfolding step_at
  stands_it t {seen} {values} {left} {row} s =
      let some = ne_eqb (length left) 0 (λ z. omega (arith, s.whole)) in
      let found = ap field_by s.code ∙ field_found s.in_table in
      let long = le-ltb (length left) (2 + byte_count row) s.whole in
      simp (some, found) (rw (placed form s.has s.free, long, eq-eqb (get_or left 1 0) (byte_count row) s.count, s.allowed))

  -- a broken field has a code at least
  pub broken_some : (seen : List Bool) (values left : List ℕ) → step_at form profile seen values left ≡ Step.Broken → 0 < length left
  unfolding step_at
  broken_some seen values left e = go (eqb (length left) 0) refl e
    where
      go : (t : Bool) → eqb (length left) 0 ≡ t → cond t Step.End (field_of form profile (field_by (get_or left 0 0)) seen values left) ≡ Step.Broken → 0 < length left
      go true n e = let z : ◌≡◌ {A = ℕ} 0 1 = cc in absurd (omega arith)
      go false n e = let some = eqb-false (length left) 0 n in omega arith

-- a field that is there leaves fewer bytes
pub shorter : {t : Bool} {form : Form} {profile : Profile} {seen : List Bool} {values left : List ℕ} {row : ℕ}
    → Stands t form profile seen values left row → length (behind row left) < length left
shorter s = rw length-drop (omega (arith, s.whole))
