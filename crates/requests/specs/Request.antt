-- A request and its packet. 01, "Host side"; 02, A1 and A6: the profile and the kind of the panel that it asks come
-- with it; A5: power off; A11: on 1.85 no group but 0.
use Rattle.std.specs.Prelude.{ℕ, Bool, false, not, ◌&&◌, List, ◌∷◌, take, leb, eqb, Option, Some, None}
use Rattle.lists.specs.Lists.{same}
use Rattle.settings.specs.declared.Profile.{Profile}
use Rattle.tiling.specs.declared.Kind.{Kind}
use Rattle.tiling.specs.Kinds.{largest}
use Rattle.settings.specs.Settings.{set_code, byte_count, most_values, power_row, video_row, off}
use Rattle.codes.specs.Found.{found_by}
use Rattle.models.specs.Models.{allowed_for, filled}
use Rattle.models.specs.declared.Model.{Model}
use Rattle.profiles.specs.declared.Video.{Video}
use Rattle.profiles.specs.Video.{bytes_of}
use Rattle.codes.specs.declared.Code.{Code}
use Rattle.packet.specs.declared.Edition.{Edition}
use Rattle.packet.specs.declared.MonitorId.{MonitorId}
use Rattle.packet.specs.declared.GroupId.{GroupId}
use Rattle.packet.specs.Edition.{carries}
use Rattle.packet.specs.Packet.{packet_of}
use Rattle.packet.specs.Answered.{is_heard}
use Rattle.requests.specs.declared.Request.{Request}

-- the values that count; the others mean nothing
abbrev pub values_of : Request → List ℕ
values_of r = take r.count r.values

abbrev pub request_data : Request → List ℕ
request_data r = r.code ∷ values_of r

unfoldable pub request_packet : Edition → Request → List ℕ
request_packet edition r = packet_of edition r.id r.group (request_data r)

-- the set of a Phoenix panel's video, for which the kind does not count
unfoldable pub video_request : MonitorId → GroupId → Video → Request
video_request i g v =
    record { model = record { profile = Profile.Phoenix; kind = Kind.FiveByFive }; id = i; group = g; code = set_code video_row; values = bytes_of v; count = byte_count video_row }

-- power off: the set 0x18 with the one value 1
unfoldable pub is_power_off : Request → Bool
is_power_off r = same (request_data r) (set_code power_row ∷ off)

-- what it sets may be held: where a tiling's byte 0 leaves the wall open, in the largest wall of the kind
abbrev pub may_set : Model → ℕ → List ℕ → Bool
may_set model row vs = allowed_for model row (filled row (largest model.kind) vs)

-- a set to a group 0 to 254 with allowed values; a get, which has no values, where an answer is due
unfoldable pub is_taken : Request → Option Code → Bool
is_taken r (Some (Code.Set row)) = not (eqb r.group.0 255) && may_set r.model row (values_of r)
is_taken r (Some (Code.Get row)) = eqb r.count 0 && is_heard r.id r.group
is_taken r None = false

-- a request from the table: no more values than any row has, a group that the line's packets can say, and one of these two
unfoldable pub is_request : Edition → Request → Bool
is_request edition r = leb r.count most_values && (carries edition r.group && is_taken r (found_by r.code))
