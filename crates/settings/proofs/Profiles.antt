-- A profile's number is that profile's. Assumes nothing.
use mathlib.Core.Path.{◌≡◌, refl}
use Rattle.std.specs.Prelude.{Some}
use Rattle.settings.specs.declared.Profile.{Profile}
use Rattle.settings.specs.Profiles.{profile_number, profile_with}

pub number_back : (profile : Profile) → profile_with (profile_number profile) ≡ Some profile
unfolding profile_with
number_back Profile.General = refl
number_back Profile.Phoenix = refl
