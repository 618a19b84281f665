-- The forms of a setup image, and all that differs between them. 01, "Setup image, form 1". 02, A2: form 2 puts the profile byte
-- after the group, the form byte is 2, all else is as before; A6: the kind and the tiling are fields of form 2 alone.
use Rattle.std.specs.Prelude.{ℕ, Bool, true, cond, not, ◌&&◌, ◌||◌, List, [], ◌∷◌, eqb, get_or, Option, Some, None}
use Rattle.lists.specs.Lists.{same}
use Rattle.settings.specs.declared.Profile.{Profile}
use Rattle.settings.specs.Settings.{fresh_values, values_of, kind_row, tiling_row}
use Rattle.settings.specs.Profiles.{profile_number, profile_with}
use Rattle.image_forms.specs.declared.Form.{Form}

-- the form byte
abbrev pub form_byte : Form → ℕ
form_byte Form.One = 1
form_byte Form.Two = 2

unfoldable pub form_with : ℕ → Option Form
form_with byte = cond (eqb byte 1) (Some Form.One) (cond (eqb byte 2) (Some Form.Two) None)

-- a record's head: ID, group, and in form 2 the profile's number
abbrev pub head_size : Form → ℕ
head_size Form.One = 2
head_size Form.Two = 3

abbrev pub profile_bytes : Form → Profile → List ℕ
profile_bytes Form.One profile = []
profile_bytes Form.Two profile = profile_number profile ∷ []

abbrev pub head_of : Form → ℕ → ℕ → Profile → List ℕ
head_of form id group profile = id ∷ group ∷ profile_bytes form profile

-- the profile that a record says: form 1 has no room for one, and its records are general
abbrev pub profile_in : Form → List ℕ → Option Profile
profile_in Form.One bytes = Some Profile.General
profile_in Form.Two bytes = profile_with (get_or bytes 2 0)

-- so that it has room for no other
abbrev pub holds : Form → Profile → Bool
holds Form.One profile = eqb (profile_number profile) (profile_number Profile.General)
holds Form.Two profile = true

-- the rows that a form has a field for
abbrev pub has_field : Form → ℕ → Bool
has_field Form.One row = not (eqb row kind_row || eqb row tiling_row)
has_field Form.Two row = true

-- what a form has no field for is not lost where it is fresh
abbrev pub is_fresh : ℕ → List ℕ → Bool
is_fresh row values = same (values_of row values) (values_of row (fresh_values Profile.General))

abbrev pub keeps_row : Form → ℕ → List ℕ → Bool
keeps_row form row values = has_field form row || is_fresh row values

-- a form loses nothing of a panel with this profile and these values
unfoldable pub keeps : Form → Profile → List ℕ → Bool
keeps form profile values = holds form profile && (keeps_row form kind_row values && keeps_row form tiling_row values)
