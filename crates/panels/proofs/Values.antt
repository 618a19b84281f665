-- A panel's 20 values, row by row. Assumes nothing.
use mathlib.Core.Path.{◌≡◌, refl, sym, ap, ◌∙◌}
use mathlib.Core.Bool.{Bool, true, false}
use mathlib.Core.List.{List, flatten}
use mathlib.Core.Logic.{⊎_elim}
use Prim.Native.Nat.{ℕ, zero, suc, ◌+◌, ◌≤◌, ◌<◌}
use native.Mathlib.Nat.{eq-or-lt_of_le}
use native.Mathlib.Omega.{arith}
use borrow.Author.Tests.{ltb-true, ltb-false, eqb-true, eqb-false}
use lib.Dec.{ltb, eqb}
use lib.ListN.{length, get_or, take, length-take, length-drop}
use lib.Seq.{take-add, take_all}
use Rattle.settings.specs.declared.Profile.{Profile}
use Rattle.models.specs.declared.Model.{Model}
use Rattle.settings.specs.Settings.{settings, allowed_by_row, byte_count, place, fresh_values, values_of, values_with, value_count, row_count, kind_row, tiling_row}
use Rattle.models.specs.Models.{kind_for, allowed_for, model_in}
use Rattle.settings.proofs.Laws.{place_fits, places_apart, fresh-count}
use Rattle.models.proofs.Laws.{allowed_many, fresh-allowed, kind_free}
use Rattle.lists.proofs.Each.{alike}
use Rattle.lists.proofs.Laid.{length_laid, laid_itself, behind_laid, laid_own, ahead_of_laid}

-- the values of a row are as many as it has
pub length-values : (row : ℕ) (values : List ℕ) → length values ≡ value_count → length (values_of row values) ≡ byte_count row
length-values row values e = let f = place_fits row in simp (length-take, length-drop) (omega arith)

pub length_with : (row : ℕ) (vs values : List ℕ) → length vs ≡ byte_count row → length values ≡ value_count → length (values_with row vs values) ≡ value_count
length_with row vs values n full = length_laid (place row) vs values (omega (arith, place_fits row)) ∙ full

-- storing what a row has changes nothing
pub with_own : (row : ℕ) (values : List ℕ) → values_with row (values_of row values) values ≡ values
with_own row values = laid_own (place row) (byte_count row) values

-- a row that was stored to has the values, and every other row has what it had
module _ (row : ℕ) (vs values : List ℕ) (n : length vs ≡ byte_count row) (full : length values ≡ value_count) where
  room : place row + length vs ≤ length values
  room = omega (arith, place_fits row)

  pub set-row : values_of row (values_with row vs values) ≡ vs
  set-row = rw (← n) (laid_itself (place row) vs values room)

  pub other_row : (r : ℕ) → (r ≡ row → ⊥) → values_of r (values_with row vs values) ≡ values_of r values
  other_row r ne = go (ltb r row) refl
    where
      below : r < row → values_of r (values_with row vs values) ≡ values_of r values
      below h = ahead_of_laid (place row) (place r) (byte_count r) vs values room (places_apart r row h)

      above : row < r → values_of r (values_with row vs values) ≡ values_of r values
      above h = ap (take (byte_count r)) (behind_laid (place row) vs values room (place r) (omega (arith, places_apart row r h)))

      go : (t : Bool) → ltb r row ≡ t → values_of r (values_with row vs values) ≡ values_of r values
      go true e = below (ltb-true r row e)
      go false e = ⊎_elim (λ same. absurd (ne (sym same))) above (eq-or-lt_of_le (ltb-false r row e))

-- 20 values are known by their rows
next_place : {row : ℕ} → row < row_count → place (suc row) ≡ place row + byte_count row
unfolding settings allowed_by_row flatten
next_place h = alike (λ k. place (suc k)) (λ k. place k + byte_count k) row_count refl h

all_places : place row_count ≡ value_count
unfolding settings allowed_by_row flatten
all_places = refl

first_rows : (v w : List ℕ) → ((row : ℕ) → row < row_count → values_of row v ≡ values_of row w) → (row : ℕ) → row ≤ row_count → take (place row) v ≡ take (place row) w
unfolding flatten
first_rows v w same zero h = refl
first_rows v w same (suc row) h =
    rw (next_place {row = row} h, take-add (place row) (byte_count row) v, take-add (place row) (byte_count row) w, first_rows v w same row (omega arith), same row h)

pub by_rows : (v w : List ℕ) → length v ≡ value_count → length w ≡ value_count → ((row : ℕ) → row < row_count → values_of row v ≡ values_of row w) → v ≡ w
by_rows v w ev ew same =
    let e = first_rows v w same row_count (omega arith) in
    sym (take_all (place row_count) v (omega (arith, all_places))) ∙ e ∙ take_all (place row_count) w (omega (arith, all_places))

-- values in range stay so: what is stored in another row leaves the kind, and a kind is stored only over a fresh tiling, which
-- stands in a wall of every kind
pub record InRange (profile : Profile) (values : List ℕ) : Type 0 where
  pub full : length values ≡ value_count
  pub rows : (row : ℕ) → row < row_count → allowed_for (model_in profile values) row (values_of row values) ≡ true

pub fresh_in_range : (profile : Profile) → InRange profile (fresh_values profile)
fresh_in_range profile = record { full = fresh-count profile; rows = λ row h. fresh-allowed (model_in profile (fresh_values profile)) h }

abbrev pub FreshTiling : Profile → List ℕ → Type 0
FreshTiling profile values = values_of tiling_row values ≡ values_of tiling_row (fresh_values profile)

pub with_in_range : {profile : Profile} {values : List ℕ} → InRange profile values → (row : ℕ) (vs : List ℕ) → allowed_for (model_in profile values) row vs ≡ true
    → (row ≡ kind_row → FreshTiling profile values) → InRange profile (values_with row vs values)
with_in_range {profile} {values} i row vs a fresh = record { full = length_with row vs values n i.full; rows = λ r h. go r h (eqb r row) (eqb row kind_row) refl refl }
  where
    n : length vs ≡ byte_count row
    n = allowed_many (model_in profile values) row vs a

    after : Model
    after = model_in profile (values_with row vs values)

    same_kind : (row ≡ kind_row → ⊥) → after.kind ≡ (model_in profile values).kind
    same_kind ne = ap (λ (l : List ℕ). kind_for (get_or l 0 0)) (other_row row vs values n i.full kind_row (λ e. ne (sym e)))

    kept : (r : ℕ) → r < row_count → row ≡ kind_row → (t : Bool) → eqb r tiling_row ≡ t → allowed_for after r (values_of r values) ≡ true
    kept r h e true s = let same = eqb-true r tiling_row s in rw (same, fresh e) (fresh-allowed after (unfold settings in omega arith))
    kept r h e false s = kind_free after (model_in profile values) (values_of r values) refl (eqb-false r tiling_row s) ∙ i.rows r h

    go : (r : ℕ) → r < row_count → (t k : Bool) → eqb r row ≡ t → eqb row kind_row ≡ k → allowed_for after r (values_of r (values_with row vs values)) ≡ true
    go r h true false e ek = let same = eqb-true r row e in rw (same_kind (eqb-false row kind_row ek), same, set-row row vs values n i.full) a
    go r h false false e ek = rw (same_kind (eqb-false row kind_row ek), other_row row vs values n i.full r (eqb-false r row e)) (i.rows r h)
    go r h true true e ek =
        let same = eqb-true r row e in
        rw (same, set-row row vs values n i.full)
        (kind_free after (model_in profile values) vs refl (λ t. omega (arith, eqb-true row kind_row ek)) ∙ a)
    go r h false true e ek = rw (other_row row vs values n i.full r (eqb-false r row e)) (kept r h (eqb-true row kind_row ek) (eqb r tiling_row) refl)
