-- The profiles and their numbers. 02, A1 and A2: 0 general, 1 Phoenix.
use Rattle.std.specs.Prelude.{ℕ, cond, eqb, Option, Some, None}
use Rattle.settings.specs.declared.Profile.{Profile}

abbrev pub profile_number : Profile → ℕ
profile_number Profile.General = 0
profile_number Profile.Phoenix = 1

unfoldable pub profile_with : ℕ → Option Profile
profile_with n = cond (eqb n 0) (Some Profile.General) (cond (eqb n 1) (Some Profile.Phoenix) None)
