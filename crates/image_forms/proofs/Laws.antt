-- Each form reads what it writes: its form byte, and a record's head. What it has no field for it keeps where that is fresh.
-- Assumes nothing.
use mathlib.Core.Path.{◌≡◌, refl, sym}
use mathlib.Core.Bool.{Bool, true, false, false≢true, not, ◌||◌}
use mathlib.Core.List.{List, [], ◌∷◌, ◌++◌}
use Prim.Native.Nat.{ℕ, ◌≤◌, ◌<◌}
use native.Mathlib.Omega.{arith}
use borrow.Author.Tests.{eqb-true, eq-eqb}
use lib.Dec.{eqb}
use lib.ListN.{length, drop}
use Rattle.std.specs.Prelude.{Some}
use Rattle.lists.specs.Lists.{same}
use Rattle.lists.proofs.Both.{both}
use Rattle.lists.proofs.Same.{same_is}
use Rattle.settings.specs.declared.Profile.{Profile}
use Rattle.settings.specs.Settings.{values_of, fresh_values, row_count, kind_row, tiling_row}
use Rattle.settings.proofs.Profiles.{number_back}
use Rattle.image_forms.specs.declared.Form.{Form}
use Rattle.image_forms.specs.Forms.{form_byte, form_with, head_size, head_of, profile_in, holds, has_field, keeps}

pub byte_back : (form : Form) → form_with (form_byte form) ≡ Some form
unfolding form_with
byte_back Form.One = refl
byte_back Form.Two = refl

-- a head has two bytes or three
pub head_some : (form : Form) → (2 ≤ head_size form) × (head_size form ≤ 3)
head_some Form.One = (omega arith, omega arith)
head_some Form.Two = (omega arith, omega arith)

-- form 1 has room for general alone
holds_general : (profile : Profile) → holds Form.One profile ≡ true → profile ≡ Profile.General
holds_general Profile.General e = refl
holds_general Profile.Phoenix e = absurd (false≢true e)

-- a record's head, and what is behind it
module _ (id group : ℕ) (profile : Profile) where
  pub head-length : (form : Form) → length (head_of form id group profile) ≡ head_size form
  head-length Form.One = refl
  head-length Form.Two = refl

  pub profile_back : (form : Form) (rest : List ℕ) → holds form profile ≡ true → profile_in form (head_of form id group profile ++ rest) ≡ Some profile
  profile_back Form.One rest h = rw (holds_general profile h)
  profile_back Form.Two rest h = number_back profile

  pub behind-head : (form : Form) (rest : List ℕ) → drop (head_size form) (head_of form id group profile ++ rest) ≡ rest
  behind-head Form.One rest = refl
  behind-head Form.Two rest = refl

-- form 1 has a field for every row but two
but_two : (P : ℕ → Type 0) → P kind_row → P tiling_row → (row : ℕ) → has_field Form.One row ≡ false → P row
but_two P kind tiling row e = go (eqb row kind_row) (eqb row tiling_row) refl refl e
  where
    go : (s t : Bool) → eqb row kind_row ≡ s → eqb row tiling_row ≡ t → not (s || t) ≡ false → P row
    go true t es et e = rw (eqb-true row kind_row es) kind
    go false true es et e = rw (eqb-true row tiling_row et) tiling
    go false false es et e = absurd (false≢true (sym e))

same_self : (l : List ℕ) → same l l ≡ true
unfolding same
same_self [] = refl
same_self (x ∷ l) = rw (eq-eqb x x refl, same_self l)

-- a panel that a form keeps: there is room for its profile, and what has no field is fresh; and no others
module _ (profile : Profile) (values : List ℕ) where
  pub kept_profile : (form : Form) → keeps form profile values ≡ true → holds form profile ≡ true
  unfolding keeps
  kept_profile form e = (both (holds form profile) _ e).0

  pub kept_fresh : (form : Form) → keeps form profile values ≡ true → (row : ℕ) → has_field form row ≡ false
      → values_of row values ≡ values_of row (fresh_values profile)
  unfolding keeps
  kept_fresh Form.One e row n =
      let (room, rows) = both (holds Form.One profile) _ e in
      let (kind, tiling) = both _ _ rows in
      rw (holds_general profile room)
      (but_two (λ row. values_of row values ≡ values_of row (fresh_values Profile.General)) (same_is _ _ kind) (same_is _ _ tiling) row n)
  kept_fresh Form.Two e row n = absurd (false≢true (sym n))

  pub keeps-fresh : (form : Form) → holds form profile ≡ true
      → ((row : ℕ) → row < row_count → has_field form row ≡ false → values_of row values ≡ values_of row (fresh_values profile)) → keeps form profile values ≡ true
  unfolding keeps
  keeps-fresh Form.One room fresh =
      let of-general = rw (holds_general profile room) at fresh in
      rw (room, of-general kind_row (omega arith) refl, of-general tiling_row (omega arith) refl, same_self _, same_self _)
  keeps-fresh Form.Two room fresh = refl

  pub two_keeps : keeps Form.Two profile values ≡ true
  unfolding keeps
  two_keeps = refl
