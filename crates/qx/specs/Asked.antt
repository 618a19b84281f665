-- What a request asks of a QX panel, and the data of the packets that ask it: a command code, and behind it a set's value. 02, A13.
use Rattle.std.specs.Prelude.{ℕ, Bool, cond, ◌&&◌, List, [], ◌∷◌, map, get_or, eqb, Option, Some, None}
use Rattle.lists.specs.Lists.{same}
use Rattle.settings.specs.declared.Profile.{Profile}
use Rattle.settings.specs.Settings.{set_code, get_code, power_row, video_row}
use Rattle.packet.specs.declared.Edition.{Edition}
use Rattle.packet.specs.Answered.{is_heard}
use Rattle.requests.specs.declared.Request.{Request}
use Rattle.requests.specs.Request.{is_request}
use Rattle.qx.specs.declared.Asked.{Asked}

-- 004, 3.2
abbrev pub power_get : ℕ
power_get = 0x19

abbrev pub power_set : ℕ
power_set = 0x18

-- 004, 11.1.3, 11.2.3 and 11.3.3
abbrev pub brightness_set : ℕ
brightness_set = 0xC0

abbrev pub contrast_set : ℕ
contrast_set = 0xC2

abbrev pub black_level_set : ℕ
black_level_set = 0xC4

-- of a video's values colour, sharpness, tint and gamma are not carried: they must be 50, 50, 50 and 3
unfoldable pub is_carried : List ℕ → Bool
is_carried v = same (get_or v 1 0 ∷ get_or v 3 0 ∷ get_or v 4 0 ∷ get_or v 6 0 ∷ []) (50 ∷ 50 ∷ 50 ∷ 3 ∷ [])

-- the set of video
unfoldable pub picture_of : Profile → List ℕ → Option Asked
picture_of Profile.General v = cond (is_carried v) (Some (Asked.SetPicture (get_or v 0 0) (get_or v 2 0) (get_or v 5 0))) None
picture_of Profile.Phoenix v = None

-- by its code; a request that is one has as many values as its setting
unfoldable pub asked_by : Request → Option Asked
asked_by r = cond (eqb r.code (get_code power_row)) (Some Asked.GetPower)
    (cond (eqb r.code (set_code power_row)) (Some (Asked.SetPower (get_or r.values 0 0)))
    (cond (eqb r.code (set_code video_row)) (picture_of r.model.profile r.values) None))

-- nothing where 22 refuses it on a line of 2.01, or where it is to ID 0 or to a group
unfoldable pub asked_of : Request → Option Asked
asked_of r = cond (is_request Edition.Sicp201 r && is_heard r.id r.group) (asked_by r) None

-- the data of each packet, in their order
unfoldable pub data_for : Option Asked → List (List ℕ)
data_for None = []
data_for (Some Asked.GetPower) = (power_get ∷ []) ∷ []
data_for (Some (Asked.SetPower v)) = (power_set ∷ v ∷ []) ∷ []
data_for (Some (Asked.SetPicture brightness contrast black_level)) = (brightness_set ∷ brightness ∷ []) ∷ (contrast_set ∷ contrast ∷ []) ∷ (black_level_set ∷ black_level ∷ []) ∷ []

-- and their command codes
unfoldable pub codes_for : Option Asked → List ℕ
codes_for asked = map (λ d. get_or d 0 0) (data_for asked)
