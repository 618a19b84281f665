-- The fields of a record as they were meant, whatever their order: for the statements that fields go by code and not by
-- place. 01, "Setup image, form 1": reading takes fields in any order; a code not there means its fresh value, and 02, A2: that
-- of the record's own profile; A6: but a kind never stands behind a tiling, and form 1 has no field for either.
use Rattle.std.specs.Prelude.{ℕ, ◌<◌, ◌≡◌, true, false, cond, eqb, length, IsOk}
use mathlib.Core.List.{List, [], ◌∷◌, ◌++◌, map, flatten}
use Rattle.settings.specs.declared.Profile.{Profile}
use Rattle.settings.specs.Settings.{set_code, fresh_values, values_of, row_count, kind_row, tiling_row}
use Rattle.image_forms.specs.declared.Form.{Form}
use Rattle.image_forms.specs.Forms.{head_of, holds, has_field}
use Rattle.image_read.specs.Fields.{fields_in}

-- a code, and the values behind it
pub record Entry : Type 0 where
  pub code : ℕ
  pub values : List ℕ

unfoldable pub bytes_of : List Entry → List ℕ
bytes_of es = flatten (map (λ (e : Entry). e.code ∷ length e.values ∷ e.values) es)

-- a row's field at its fresh values
abbrev pub fresh_entry : Profile → ℕ → Entry
fresh_entry profile row = record { code = set_code row; values = values_of row (fresh_values profile) }

-- the same fields in another order
pub data Permuted : List Entry → List Entry → Type 0 where
  same : {es : List Entry} → Permuted es es
  swapped : {d e : Entry} {es : List Entry} → Permuted (d ∷ e ∷ es) (e ∷ d ∷ es)
  kept : {e : Entry} {es fs : List Entry} → Permuted es fs → Permuted (e ∷ es) (e ∷ fs)
  twice : {es fs gs : List Entry} → Permuted es fs → Permuted fs gs → Permuted es gs

-- no field has the code
abbrev pub Without : ℕ → List Entry → Type 0
Without c [] = Unit {0}
Without c (e ∷ es) = (e.code ≡ c → ⊥) × Without c es

-- the form has all these fields
abbrev pub HasAll : Form → List Entry → Type 0
HasAll form es = (row : ℕ) → row < row_count → has_field form row ≡ false → Without (set_code row) es

-- no kind stands behind a tiling
abbrev pub KindFirst : List Entry → Type 0
KindFirst [] = Unit {0}
KindFirst (e ∷ es) = (e.code ≡ set_code tiling_row → Without (set_code kind_row) es) × KindFirst es

-- the second fields are the first in another order, and one that a record of the form can have
abbrev pub Reordered : Form → Profile → List Entry → List Entry → Type 0
Reordered form profile these those = Permuted these those × KindFirst those × HasAll form those

-- what fields give a row: the values of the one with its set code, or the row's fresh values where there is none
abbrev pub given_or : List ℕ → ℕ → List Entry → List ℕ
given_or fresh row [] = fresh
given_or fresh row (e ∷ es) = cond (eqb e.code (set_code row)) e.values (given_or fresh row es)

abbrev pub given : Profile → ℕ → List Entry → List ℕ
given profile row es = given_or (values_of row (fresh_values profile)) row es

-- the second fields have no fault in a record of the form, and give each row what the first give it
pub record GiveAlike (form : Form) (profile : Profile) (these those : List Entry) : Type 0 where
  pub sound : IsOk (fields_in form profile (bytes_of those))
  pub rows : (row : ℕ) → row < row_count → given profile row those ≡ given profile row these

-- a record of a form, whose head says ID, group and profile
abbrev pub RecordOf : Form → ℕ → ℕ → Profile → List Entry → List ℕ → Type 0
RecordOf form id group profile es bytes = (holds form profile ≡ true) × (bytes ≡ head_of form id group profile ++ bytes_of es)

-- two records, each of its form, whose heads say the same, and fields that stand in a relation, which goes by the second's form
abbrev pub SameHead : (Form → Profile → List Entry → List Entry → Type 0) → Form → Form → List ℕ → List ℕ → Type 0
SameHead P f g a b = (id group : ℕ) × (profile : Profile) × (these those : List Entry)
    × RecordOf f id group profile these a × RecordOf g id group profile those b × P g profile these those
