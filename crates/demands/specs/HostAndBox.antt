-- Host and box on one line, of either edition. 01, "Host side"; 02, A11.
use Rattle.std.specs.Prelude.{ℕ, zero, suc, ◌<◌, Bool, true, cond, not, ◌&&◌, ◌≡◌, List, [], ◌∷◌, map, eqb, length, get_or, replicate, Option, Some, None}
use Rattle.codes.specs.declared.Code.{Code}
use Rattle.tiling.specs.Kinds.{in_wall}
use Rattle.settings.specs.Settings.{values_of, tiling_row}
use Rattle.codes.specs.Found.{found_by}
use Rattle.packet.specs.declared.Edition.{Edition}
use Rattle.packet.specs.Answered.{is_heard}
use Rattle.panels.specs.declared.Panel.{Panel}
use Rattle.panels.specs.declared.Table.{Table}
use Rattle.panels.specs.Wall.{Wall, model_of, blank, place_of, panels_of}
use Rattle.panels.specs.WellFormed.{WellFormed}
use Rattle.answers.specs.Reply.{sent_bytes}
use Rattle.answers.specs.Judged.{off_already}
use Rattle.answers.specs.Played.{played}
use Rattle.requests.specs.declared.Request.{Request}
use Rattle.requests.specs.Request.{values_of as request_values, request_packet, is_request}
use Rattle.host.specs.declared.End.{End}
use Rattle.host.specs.declared.Outcome.{Outcome}
use Rattle.host.specs.Machine.{start, burst, mark, State, Move, waiting_for, idle, over, step, most_sendings}
use Rattle.demands.specs.HostCalls.{sendings_in}

-- the host that was started with a request, and to which the mark then came n times
abbrev pub asking : Edition → Request → ℕ → State
asking edition r zero = (step (idle edition) (start r)).next
asking edition r (suc n) = (step (asking edition r n) mark).next

-- the host that has sent a request's packet n times
abbrev pub waiting : Edition → Request → ℕ → State
waiting edition r n = waiting_for edition r (replicate n (request_packet edition r))

-- a tiling that leaves the panel its wall, which has no such position (02, A6)
abbrev pub past_wall : ℕ → List ℕ → Panel → Bool
past_wall row values p =
    eqb row tiling_row && eqb (get_or values 3 0) 0
    && not (in_wall (model_of p).kind (get_or values 2 0) (get_or (values_of tiling_row p.values) 3 0))

-- With the nth packet a get ends with the report of the panel's values, and a set with ACK; but the power off of a panel that is
-- off (02, A5) with NAV and, where an earlier packet may have turned it off, with "off or refused"; and a tiling past the panel's
-- own wall with NAV.
abbrev pub EndsWith : Edition → Option Code → Request → Panel → ℕ → Move → Type 0
EndsWith edition (Some (Code.Set row)) r p n m =
    m ≡ over (waiting edition r n) [] (cond (off_already row (request_values r) p) (cond (eqb n 1) End.Nav End.OffOrRefused) (cond (past_wall row (request_values r) p) End.Nav End.Ack)) []
EndsWith edition (Some (Code.Get row)) r p n m = m ≡ over (waiting edition r n) [] End.Report (values_of row p.values)
EndsWith edition None r p n m = ⊥

-- A request to a panel that is there, and of the profile and kind that the request says, ends so with the first packet that is answered: on
-- a line that loses nothing that is the first, and on another the one that comes after n marks.
abbrev pub Lossless : Type 0
Lossless =
    (edition : Edition) (t : Table) → WellFormed t → (r : Request) (k n : ℕ) → is_request edition r ≡ true → is_heard r.id r.group ≡ true
    → place_of r.id (panels_of t) ≡ Some k → model_of (get_or (panels_of t) k blank) ≡ r.model → n < most_sendings
    → let answer = sent_bytes edition (played edition (panels_of t) (request_packet edition r)).reply in
    EndsWith edition (found_by r.code) r (get_or (panels_of t) k blank) (suc n) (step (asking edition r n) (burst answer))

-- a request that the panel which it asks can answer: the panel is there, and of the profile and kind that the request says; or one to
-- which no answer is due
abbrev pub StandsAs : Request → Wall → Option ℕ → Type 0
StandsAs r w (Some k) = model_of (get_or w k blank) ≡ r.model
StandsAs r w None = ⊥

abbrev pub AllAnswered : Edition → Wall → List Request → Type 0
AllAnswered edition w [] = Unit {0}
AllAnswered edition w (r ∷ rs) =
    (is_request edition r ≡ true) × (is_heard r.id r.group ≡ true → StandsAs r w (place_of r.id w)) × AllAnswered edition w rs

-- Such requests on a line that loses nothing: each is started, the box plays its packet, and the host hears the box's answer, if one is
-- due, before the next. What is told of each in the end:
abbrev pub ends : Edition → State → Wall → List Request → List Outcome
ends edition s w [] = []
ends edition s w (r ∷ rs) =
    let begun = step s (start r) in
    let o = played edition w (request_packet edition r) in
    let m = cond (is_heard r.id r.group) (step begun.next (burst (sent_bytes edition o.reply))) begun in
    m.outcome ∷ ends edition m.next o.wall rs

-- Each is over and was sent once: none is sent again, and no start is refused, not by 24 either.
abbrev pub EachOnce : Type 0
EachOnce =
    (edition : Edition) (t : Table) → WellFormed t → (rs : List Request) → AllAnswered edition (panels_of t) rs
    → map sendings_in (ends edition (idle edition) (panels_of t) rs) ≡ replicate (length rs) 1
