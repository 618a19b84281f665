-- What a panel may hold goes by its model, its profile and its kind. 01, "The settings"; 02, A1 and A6.
use Rattle.std.specs.Prelude.{ℕ, Bool, cond, not, ◌&&◌, ◌||◌, List, eqb, get_or, set, unwrap_or}
use Rattle.tiling.specs.declared.Kind.{Kind}
use Rattle.tiling.specs.Kinds.{kind_with, in_wall}
use Rattle.settings.specs.declared.Profile.{Profile}
use Rattle.settings.specs.Settings.{in_ranges, values_of, kind_row, tiling_row}
use Rattle.models.specs.declared.Model.{Model}

-- the kind that a panel's value says; none holds a number that is no kind's, which would be the larger kind's
abbrev pub kind_for : ℕ → Kind
kind_for n = unwrap_or (kind_with n) Kind.FifteenByTen

-- the kind is among a panel's values
abbrev pub model_in : Profile → List ℕ → Model
model_in profile values = record { profile = profile; kind = kind_for (get_or (values_of kind_row values) 0 0) }

-- The bytes vs may be held in row k: they are in its ranges, and a tiling's position is one of its wall, the wall one of the kind's.
abbrev pub allowed_for : Model → ℕ → List ℕ → Bool
allowed_for model k vs = in_ranges model.profile k vs && (not (eqb k tiling_row) || in_wall model.kind (get_or vs 2 0) (get_or vs 3 0))

-- A set of tiling whose wall is 0 means don't care (02, A6): the byte of another wall then stands there. All else is as it was.
unfoldable pub filled : ℕ → ℕ → List ℕ → List ℕ
filled k wall vs = cond (eqb k tiling_row && eqb (get_or vs 3 0) 0) (set vs 3 wall) vs
