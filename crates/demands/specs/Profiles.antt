-- Walls of both profiles and both kinds, and the tint with its sign. 02, A1 and A6.
use Rattle.std.specs.Prelude.{ℕ, ◌<◌, Bool, cond, ◌&&◌, ◌≡◌, List, leb, ℤ, pos, negsuc, length, get_or, Some}
use Rattle.std.specs.Int.Signed.{mag, le_z}
use Rattle.tiling.specs.declared.Kind.{Kind}
use Rattle.settings.specs.declared.Profile.{Profile}
use Rattle.profiles.specs.declared.Video.{Video}
use Rattle.settings.specs.Settings.{video_row}
use Rattle.models.specs.Models.{allowed_for}
use Rattle.profiles.specs.Video.{tint_of, tint_byte, video_in, bytes_of}
use Rattle.packet.specs.declared.MonitorId.{MonitorId}
use Rattle.packet.specs.declared.GroupId.{GroupId}
use Rattle.packet.specs.declared.Verdict.{Verdict}
use Rattle.packet.specs.Reading.{Reading}
use Rattle.panels.specs.declared.Panel.{Panel}
use Rattle.panels.specs.Wall.{Wall, model_of, blank, video_of}
use Rattle.panels.specs.Addressed.{reaches}
use Rattle.panels.specs.WellFormed.{GoodPanel}
use Rattle.answers.specs.Judged.{command, set_of, stored, held_then}
use Rattle.answers.specs.Played.{answered}

-- A set to a wall of both profiles and both kinds: exactly the panels that it addresses and whose own profile and kind allow what
-- they would then hold hold it, and every other is as it was.
abbrev pub OwnModel : Type 0
OwnModel =
    (w : Wall) (r : Reading) (i : MonitorId) (g : GroupId) (n row : ℕ) (values : List ℕ)
    → r.verdict ≡ Verdict.Intact i g n → command r.part ≡ set_of row values
    → (k : ℕ) → k < length w
    → let p = get_or w k blank in
    let held = held_then row values p in
    get_or (answered w r).wall k blank ≡ cond (reaches i g p && allowed_for (model_of p) row held) (stored row held p) p

-- A byte and a tint of 8 bits are each the other's way back; `mag` of t is t or -(t + 1).
abbrev pub TintBack : Type 0
TintBack = ((b : ℕ) → b < 256 → tint_byte (tint_of b) ≡ b) × ((t : ℤ) → mag t < 128 → tint_of (tint_byte t) ≡ t)

-- 000, 5.1.3, the table for Phoenix 2.0: the bytes that are allowed are exactly those of these values.
unfoldable pub in_phoenix_range : Video → Bool
in_phoenix_range v =
    leb v.brightness 100 && leb v.colour 100 && leb v.contrast 100 && leb v.sharpness 10
    && (le_z (negsuc 49) v.tint && le_z v.tint (pos 50))
    && leb v.black 100 && (leb 1 v.gamma && leb v.gamma 5)

abbrev pub VideoAllowed : Type 0
VideoAllowed =
    (bytes : List ℕ) (kind : Kind) → length bytes ≡ 7 → get_or bytes 4 0 < 256
    → allowed_for (record { profile = Profile.Phoenix; kind = kind }) video_row bytes ≡ in_phoenix_range (video_in bytes)

-- What is set is what is seen.
abbrev pub SeenAsSet : Type 0
SeenAsSet =
    (p : Panel) (v : Video) → GoodPanel p → p.profile ≡ Profile.Phoenix → mag v.tint < 128
    → video_of (stored video_row (bytes_of v) p) ≡ Some v
