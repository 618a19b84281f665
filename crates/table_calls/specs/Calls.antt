-- Add and remove. 01, "Table calls and numbers": lower numbers first, and a refusal changes nothing. 02, A1
-- and A6: a profile and a kind, 5 and 7.
use Rattle.tiling.specs.declared.Kind.{Kind}
use Rattle.settings.specs.declared.Profile.{Profile}
use Rattle.std.specs.Option.{option_map_or}
use Rattle.std.specs.Prelude.{ℕ, suc, cond, [], ◌∷◌, ◌++◌, eqb, leb, length, take, drop, Option, Some, None, is_some, Result, Ok, Err}
use Rattle.tiling.specs.Kinds.{kind_with}
use Rattle.settings.specs.Profiles.{profile_with}
use Rattle.packet.specs.declared.MonitorId.{MonitorId}
use Rattle.packet.specs.declared.GroupId.{GroupId}
use Rattle.table_calls.specs.declared.Refusal.{Refusal}
use Rattle.panels.specs.Wall.{Wall, fresh_panel, place_of, most_panels}

-- 01's number
abbrev pub refusal_number : Refusal → ℕ
refusal_number Refusal.Full = 1
refusal_number Refusal.IdZero = 2
refusal_number Refusal.IdTaken = 3
refusal_number Refusal.GroupZero = 4
refusal_number Refusal.UnknownProfile = 5
refusal_number Refusal.NoPanel = 6
refusal_number Refusal.UnknownKind = 7

-- and 0 where nothing is refused
abbrev pub number_of : Option Refusal → ℕ
number_of refusal = option_map_or refusal_number refusal 0

-- what a call answers
abbrev pub unless : {A : Type 0} → Option Refusal → A → Result A Refusal
unless (Some refusal) a = Err refusal
unless None a = Ok a

unfoldable pub add_refusal : Wall → MonitorId → GroupId → ℕ → ℕ → Option Refusal
add_refusal w i g n k =
    cond (leb most_panels (length w)) (Some Refusal.Full)
    (cond (eqb i.0 0) (Some Refusal.IdZero) (cond (is_some (place_of i w)) (Some Refusal.IdTaken)
    (cond (eqb g.0 0) (Some Refusal.GroupZero)
    (option_map_or (λ profile. option_map_or (λ kind. None) (kind_with k) (Some Refusal.UnknownKind)) (profile_with n) (Some Refusal.UnknownProfile)))))

-- the fresh panel of a profile and a kind, if there are such
abbrev pub fresh_of : Option Profile → Option Kind → MonitorId → GroupId → Wall
fresh_of numbered kinded i g = option_map_or (λ profile. option_map_or (λ kind. fresh_panel i g profile kind ∷ []) kinded []) numbered []

-- that panel at the end, unless it is refused
unfoldable pub added : Wall → MonitorId → GroupId → ℕ → ℕ → Wall
added w i g n k = cond (is_some (add_refusal w i g n k)) w (w ++ fresh_of (profile_with n) (kind_with k) i g)

-- later panels move up
abbrev pub without : Option ℕ → Wall → Wall
without (Some k) w = take k w ++ drop (suc k) w
without None w = w

unfoldable pub removed : Wall → MonitorId → Wall
removed w i = without (place_of i w) w

abbrev pub remove_refusal : Wall → MonitorId → Option Refusal
remove_refusal w i = cond (is_some (place_of i w)) None (Some Refusal.NoPanel)
