-- The host as a machine over happenings. 000, 2.2; 01, "Host side"; 02, A5: a power off that gets NAV; A11: its line has one edition;
-- A12: it rests.
use Rattle.std.specs.Prelude.{ℕ, Bool, true, false, cond, ◌&&◌, List, [], ◌∷◌, length, drop, replicate, ltb, Option, Some, None}
use Rattle.tiling.specs.declared.Kind.{Kind}
use Rattle.settings.specs.declared.Profile.{Profile}
use Rattle.settings.specs.Settings.{most_values}
use Rattle.packet.specs.Answered.{is_heard}
use Rattle.packet.specs.Packet.{monitor_id, group_id, damage_in}
use Rattle.packet.specs.Reading.{Reading, reading_of}
use Rattle.packet.specs.declared.Edition.{Edition}
use Rattle.packet.specs.declared.Damage.{Damage}
use Rattle.requests.specs.declared.Request.{Request}
use Rattle.host.specs.declared.Refusal.{Refusal}
use Rattle.host.specs.declared.End.{End}
use Rattle.host.specs.declared.Outcome.{Outcome}
use Rattle.requests.specs.declared.Said.{Said}
use Rattle.requests.specs.Request.{is_request, is_power_off, request_packet}
use Rattle.host.specs.Heard.{said_to}

-- A request is started, a burst is heard, or the mark says that 500 ms have passed.
pub data Happening : Type 0 where
  start : Request → Happening
  burst : List ℕ → Happening
  mark : Happening

-- the line's edition; the request that waits, and the packets given out for it since its start, none where nothing waits; and
-- whether a mark is due before the next start
pub record State : Type 0 where
  pub edition : Edition
  pub request : Request
  pub given : List (List ℕ)
  pub resting : Bool

-- what a happening leads to: the next state, the packet given out or none, what has become of the request, a report's values, and
-- what is wrong with the burst that was heard
pub record Move : Type 0 where
  pub next : State
  pub sent : List (List ℕ)
  pub outcome : Outcome
  pub values : List ℕ
  pub damage : Option Damage

-- a request waits, for which these packets were given out
abbrev pub waiting_for : Edition → Request → List (List ℕ) → State
waiting_for edition r packets = record { edition = edition; request = r; given = packets; resting = false }

-- nothing waits, and a fixed blank stands in the place of a request; the host rests, or it is idle
abbrev pub blank : Request
blank = record { model = record { profile = Profile.General; kind = Kind.FiveByFive }; id = monitor_id 0; group = group_id 0; code = 0; values = replicate most_values 0; count = 0 }

abbrev pub free : Edition → Bool → State
free edition resting = record { edition = edition; request = blank; given = []; resting = resting }

abbrev pub idle : Edition → State
idle edition = free edition false

-- how many times the packet was sent: the number given out since start
abbrev pub sendings : State → ℕ
sendings s = length s.given

abbrev pub waits : State → Bool
waits s = ltb 0 (sendings s)

-- it was sent more than once
abbrev pub repeated : State → Bool
repeated s = ltb 1 (sendings s)

-- a packet is sent at most so often
abbrev pub most_sendings : ℕ
most_sendings = 3

-- a request is over
abbrev pub is_over : Outcome → Bool
is_over Outcome.Idle = false
is_over Outcome.Resting = false
is_over Outcome.Waiting = false
is_over (Outcome.Over e n) = true
is_over (Outcome.Refused r) = false

-- of no burst is anything told
abbrev pub move : State → List (List ℕ) → Outcome → List ℕ → Move
move s packets o vs = record { next = s; sent = packets; outcome = o; values = vs; damage = None }

-- nothing is given out and nothing changes
abbrev pub quiet : State → Outcome → Move
quiet s o = move s [] o []

-- the request of s is over; the result has how it ended and how often its packet was sent. Where that is more than once, an answer
-- may still be under way, and the host rests.
abbrev pub over : State → List (List ℕ) → End → List ℕ → Move
over s packets e vs = move (free s.edition (repeated s)) packets (Outcome.Over e (sendings s)) vs

-- what is told while nothing waits
abbrev pub unasked : Bool → Outcome
unasked resting = cond resting Outcome.Resting Outcome.Idle

-- the packet is given out; where no answer is due, the request is over
unfoldable pub begun : Edition → Request → Move
begun edition r = let p = request_packet edition r ∷ [] in
    let s = waiting_for edition r p in
    cond (is_heard r.id r.group) (move s p Outcome.Waiting []) (over s p End.Unheard [])

-- the same packet again, or after the third sending given up
unfoldable pub again : State → Move
again s = let p = request_packet s.edition s.request in
    cond (ltb (sendings s) most_sendings)
    (move (waiting_for s.edition s.request (p ∷ s.given)) (p ∷ []) Outcome.Waiting [])
    (over s [] End.GivenUp [])

-- NAV: where a power off was sent more than once, an earlier sending may have done the work
unfoldable pub nav_ends : State → End
nav_ends s = cond (is_power_off s.request && repeated s) End.OffOrRefused End.Nav

-- ACK, report and NAV end the request
unfoldable pub ending : State → List ℕ → Option Said → Move
ending s d (Some Said.Ack) = over s [] End.Ack []
ending s d (Some Said.Nack) = again s
ending s d (Some Said.Nav) = over s [] (nav_ends s) []
ending s d (Some Said.Report) = over s [] End.Report (drop 1 d)
ending s d None = quiet s Outcome.Waiting

unfoldable pub heard : State → Reading → Move
heard s reading = ending s reading.part (said_to s.request reading)

-- a burst's move tells what is wrong with the burst, whatever comes of it; 02, A3
abbrev pub telling : Option Damage → Move → Move
telling d m = record { next = m.next; sent = m.sent; outcome = m.outcome; values = m.values; damage = d }

-- one happening
unfoldable pub step : State → Happening → Move
step s (start r) =
    cond (waits s) (quiet s (Outcome.Refused Refusal.Busy))
    (cond s.resting (quiet s (Outcome.Refused Refusal.Resting))
    (cond (is_request s.edition r) (begun s.edition r) (quiet s (Outcome.Refused Refusal.NotARequest))))
step s (burst b) = let reading = reading_of s.edition b in telling (damage_in reading.verdict) (cond (waits s) (heard s reading) (quiet s (unasked s.resting)))
step s mark = cond (waits s) (again s) (quiet (idle s.edition) Outcome.Idle)
