-- The numbers that calls refuse by, 0 where nothing is refused. 01, "Table calls and numbers": each is given exactly when its
-- row says, lower numbers first, but 24 before 22 (02, A12). 11 to 18 go with the order of reading, in `image_read`; 32 and 33 with
-- lists of bursts, in `Scenes`.
use Rattle.std.specs.Prelude.{ℕ, ◌+◌, ◌*◌, Bool, true, cond, ◌&&◌, ◌||◌, ◌≡◌, List, [], ◌∷◌, leb, eqb, length, take, drop, Some, None, is_some}
use Rattle.lists.specs.Lists.{same}
use Rattle.settings.specs.Profiles.{profile_number}
use Rattle.packet.specs.declared.Edition.{Edition}
use Rattle.packet.specs.declared.MonitorId.{MonitorId}
use Rattle.packet.specs.declared.GroupId.{GroupId}
use Rattle.packet.specs.Edition.{edition_with, open_refusal}
use Rattle.packet.specs.Packet.{written_of as packet_written, refusal_number as packet_number}
use Rattle.panels.specs.declared.Panel.{Panel}
use Rattle.panels.specs.Wall.{Wall, place_of}
use Rattle.table_calls.specs.Calls.{number_of as table_number, add_refusal, remove_refusal}
use Rattle.answers.specs.declared.Reply.{Reply}
use Rattle.answers.specs.Reply.{sent_of, refusal_number as answer_number}
use Rattle.requests.specs.Request.{is_request}
use Rattle.host.specs.declared.Phase.{Phase}
use Rattle.host.specs.declared.Host.{Host}
use Rattle.host.specs.declared.Outcome.{Outcome}
use Rattle.host.specs.Machine.{Happening, start, burst, mark}
use Rattle.host.specs.Calls.{refusal_number as host_number}
use Rattle.image_forms.specs.declared.Form.{Form}
use Rattle.image_write.specs.Written.{written_of as image_written, written_number as image_number}
use Rattle.demands.specs.HostCalls.{Call, answer_to}

-- 32 panels are there, ID 0, ID in the table, group 0, a profile that is neither 0 nor 1, a kind that is neither
abbrev pub Add : Type 0
Add =
    (w : Wall) (i : MonitorId) (g : GroupId) (n k : ℕ)
    → table_number (add_refusal w i g n k)
    ≡ cond (leb 32 (length w)) 1
    (cond (eqb i.0 0) 2
    (cond (is_some (place_of i w)) 3 (cond (eqb g.0 0) 4 (cond (eqb n 0 || eqb n 1) (cond (eqb k 0 || eqb k 1) 0 7) 5))))

-- no panel has that ID
abbrev pub Remove : Type 0
Remove = (w : Wall) (i : MonitorId) → table_number (remove_refusal w i) ≡ cond (is_some (place_of i w)) 0 6

-- form 1: 31 where a panel is not general, its kind, the first of its values, not 0, or its tiling, the third to the sixth, not
-- fresh; then, in either form, 19, lent output too short: image under 35n + 2 bytes in form 1 and 45n + 2 in form 2, answer or
-- packet under 40; data that fits no packet has no number
abbrev pub is_plain : Panel → Bool
is_plain p =
    eqb (profile_number p.profile) 0
    && (same (take 1 p.values) (0 ∷ []) && same (take 4 (drop 2 p.values)) (0 ∷ 0 ∷ 1 ∷ 1 ∷ []))

abbrev pub all_plain : Wall → Bool
all_plain [] = true
all_plain (p ∷ w) = is_plain p && all_plain w

abbrev pub ImageOne : Type 0
ImageOne =
    (w : Wall) (out : List ℕ) → image_number (image_written Form.One w out) ≡ cond (all_plain w) (cond (leb (35 * length w + 2) (length out)) 0 19) 31

abbrev pub ImageTwo : Type 0
ImageTwo = (w : Wall) (out : List ℕ) → image_number (image_written Form.Two w out) ≡ cond (leb (45 * length w + 2) (length out)) 0 19

abbrev pub Answer : Type 0
Answer = (edition : Edition) (out : List ℕ) (r : Reply) → answer_number (sent_of edition out r) ≡ cond (leb 40 (length out)) 0 19

-- the most data that a packet has
abbrev pub most_data : Edition → ℕ
most_data Edition.Sicp185 = 37
most_data Edition.Sicp201 = 36

abbrev pub Packet : Type 0
Packet =
    (edition : Edition) (out d : List ℕ)
    → packet_number (packet_written edition out d) ≡ cond (leb 40 (length out)) (cond (leb (length d) (most_data edition)) (Some 0) None) (Some 19)

-- a line or a host is opened with 185 or 201, and 23 is any other number
abbrev pub Open : Type 0
Open = (n : ℕ) → open_refusal (edition_with n) ≡ cond (eqb n 185 || eqb n 201) 0 23

-- a host's start: lent output under 40 bytes; a request is waiting; a mark is due before it; not a request from the table. A burst and a
-- mark are refused for want of room alone.
abbrev pub number_in : Outcome → ℕ
number_in Outcome.Idle = 0
number_in Outcome.Resting = 0
number_in Outcome.Waiting = 0
number_in (Outcome.Over e n) = 0
number_in (Outcome.Refused r) = host_number r

abbrev pub number_at : Phase → ℕ → ℕ
number_at Phase.Idle n = n
number_at Phase.Resting n = 24
number_at (Phase.Waiting asked) n = 21

abbrev pub start_number : Host → Happening → ℕ
start_number host (start r) = number_at host.phase (cond (is_request host.edition r) 0 22)
start_number host (burst b) = 0
start_number host mark = 0

abbrev pub HostCall : Type 0
HostCall = (host : Host) (c : Call) → number_in (answer_to host c).outcome ≡ cond (leb 40 (length c.lent)) (start_number host c.happens) 19
