-- The host's move for a burst and for a mark, written out anew, by the bytes. 01, "Host side"; 02, A5, A11 and A12.
use Rattle.std.specs.Prelude.{ℕ, ◌-◌, cond, ◌&&◌, ◌≡◌, List, [], ◌∷◌, leb, eqb, length, take, drop, Option, Some, None}
use Rattle.lists.specs.Lists.{same}
use Rattle.settings.specs.Settings.{get_code}
use Rattle.codes.specs.declared.Code.{Code}
use Rattle.codes.specs.Found.{found_by}
use Rattle.models.specs.Models.{allowed_for}
use Rattle.packet.specs.declared.Edition.{Edition}
use Rattle.packet.specs.Packet.{is_intact}
use Rattle.requests.specs.declared.Request.{Request}
use Rattle.requests.specs.declared.Said.{Said}
use Rattle.requests.specs.Request.{request_data, request_packet}
use Rattle.host.specs.declared.End.{End}
use Rattle.host.specs.declared.Outcome.{Outcome}
use Rattle.host.specs.Machine.{mark, State, Move, waiting_for, free, idle, move, quiet, step}
use Rattle.demands.specs.Editions.{heeds}

-- the data of a packet: size, ID, on 2.01 group, data, checksum
abbrev pub data_in : Edition → List ℕ → List ℕ
data_in Edition.Sicp185 b = take (length b - 3) (drop 2 b)
data_in Edition.Sicp201 b = take (length b - 4) (drop 3 b)

-- for a set ACK, 00 06; for a get its report, the get code and then values that the panel may hold
abbrev pub ends_by : Request → Option Code → List ℕ → Option Said
ends_by r (Some (Code.Set row)) d = cond (same d (0x00 ∷ 0x06 ∷ [])) (Some Said.Ack) None
ends_by r (Some (Code.Get row)) d = cond (same (take 1 d) (get_code row ∷ []) && allowed_for r.model row (drop 1 d)) (Some Said.Report) None
ends_by r None d = None

-- for either NACK, 00 15, or NAV, 00 18; and nothing, where the burst is not intact, or is not heeded
abbrev pub said : Edition → Request → List ℕ → Option Said
said edition r b =
    let d = data_in edition b in
    cond (is_intact edition b && heeds edition r b)
    (cond (same d (0x00 ∷ 0x15 ∷ [])) (Some Said.Nack) (cond (same d (0x00 ∷ 0x18 ∷ [])) (Some Said.Nav) (ends_by r (found_by r.code) d)))
    None

-- a request is over: the answer tells how it ended and how often it was sent, and the host rests where that was more than once
abbrev pub ended : State → End → List ℕ → Move
ended s e vs = let n = length s.given in move (free s.edition (leb 2 n)) [] (Outcome.Over e n) vs

-- NACK or the mark: the same packet again, or, after the third sending, given up
abbrev pub sent_again : State → Move
sent_again s =
    let p = request_packet s.edition s.request in
    cond (leb 3 (length s.given)) (ended s End.GivenUp []) (move (waiting_for s.edition s.request (p ∷ s.given)) (p ∷ []) Outcome.Waiting [])

-- ACK, report and NAV end it, NAV to a power off that was sent more than once as "off or refused"; everything else is ignored
abbrev pub moved_by : State → List ℕ → Option Said → Move
moved_by s d (Some Said.Ack) = ended s End.Ack []
moved_by s d (Some Said.Nack) = sent_again s
moved_by s d (Some Said.Nav) = ended s (cond (same (request_data s.request) (0x18 ∷ 1 ∷ []) && leb 2 (length s.given)) End.OffOrRefused End.Nav) []
moved_by s d (Some Said.Report) = ended s End.Report (drop 1 d)
moved_by s d None = quiet s Outcome.Waiting

abbrev pub heard_by : State → List ℕ → Move
heard_by s b =
    cond (eqb (length s.given) 0) (quiet s (cond s.resting Outcome.Resting Outcome.Idle))
    (moved_by s (data_in s.edition b) (said s.edition s.request b))

-- A mark: the same packet again, or given up; while nothing waits, the host is idle then, whether it rested or not.
abbrev pub MarkMoves : Type 0
MarkMoves = (s : State) → step s mark ≡ cond (eqb (length s.given) 0) (quiet (idle s.edition) Outcome.Idle) (sent_again s)
