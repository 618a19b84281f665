-- How long a request lasts and what is given out for it, said of the calls. 01, "Host side": a request is over at the latest with its
-- third NACK or 500 ms mark, whatever else arrives; the result carries how many times the packet was sent, the number given out
-- since start; everything else is ignored.
use Rattle.std.specs.Prelude.{ℕ, suc, ◌+◌, ◌≤◌, Bool, true, false, cond, ◌&&◌, ◌≡◌, List, [], ◌∷◌, ◌++◌, eqb, length, replicate, None}
use Rattle.lists.specs.Lists.{same}
use Rattle.packet.specs.declared.Edition.{Edition}
use Rattle.packet.specs.Answered.{is_heard}
use Rattle.packet.specs.Packet.{is_intact}
use Rattle.requests.specs.declared.Request.{Request}
use Rattle.requests.specs.Request.{request_packet}
use Rattle.host.specs.declared.Host.{Host}
use Rattle.host.specs.declared.End.{End}
use Rattle.host.specs.declared.Outcome.{Outcome}
use Rattle.host.specs.Machine.{Happening, start, burst, mark, waiting_for, idle}
use Rattle.host.specs.Calls.{host_of, state_of}
use Rattle.demands.specs.HostCalls.{Call, has_room, answer_to, output_after, given_out, host_after, packets, none_over}
use Rattle.demands.specs.HostMoves.{data_in, said}
use Rattle.demands.specs.Numbers.{number_in}
use Rattle.demands.specs.Editions.{heeds}

-- a NACK to the request, or a mark
abbrev pub is_nack : Edition → Request → List ℕ → Bool
is_nack edition r b = is_intact edition b && (heeds edition r b && same (data_in edition b) (0x00 ∷ 0x15 ∷ []))

abbrev pub pushes : Edition → Request → Happening → Bool
pushes edition r (start other) = false
pushes edition r (burst b) = is_nack edition r b
pushes edition r mark = true

-- how many of them are among calls; one that 19 refuses does not count
abbrev pub pushed : Edition → Request → List Call → ℕ
pushed edition r [] = 0
pushed edition r (c ∷ cs) = cond (has_room c && pushes edition r c.happens) 1 0 + pushed edition r cs

-- A start that is not refused gives the request's packet out. Where an answer is due the host waits for that request; else it is over,
-- unheard, and the host is idle.
abbrev pub Started : Type 0
Started =
    (host : Host) (r : Request) (first : Call) → first.happens ≡ start r → number_in (answer_to host first).outcome ≡ 0
    → (given_out host first ≡ request_packet host.edition r ∷ [])
    × ((answer_to host first).outcome ≡ cond (is_heard r.id r.group) Outcome.Waiting (Outcome.Over End.Unheard 1))
    × ((answer_to host first).host
    ≡ host_of (cond (is_heard r.id r.group) (waiting_for host.edition r (request_packet host.edition r ∷ [])) (idle host.edition)))

-- A start tells that it waits, so the request is taken; and of the calls behind it none has told yet that it is over.
abbrev pub WhileItLasts : (Host → Request → List Call → Type 0) → Type 0
WhileItLasts P =
    (host : Host) (r : Request) (first : Call) (cs : List Call)
    → first.happens ≡ start r → (answer_to host first).outcome ≡ Outcome.Waiting → none_over (answer_to host first).host cs ≡ true
    → P host r (first ∷ cs)

-- Until then at most two NACKs and marks have come: with the third it is over, whatever else arrives.
abbrev pub OverWithThird : Type 0
OverWithThird = WhileItLasts (λ (host : Host) (r : Request) (cs : List Call). pushed host.edition r cs ≤ 2)

-- The packets given out are all the request's own: one at the start, and one more for each of these.
abbrev pub OwnPackets : Type 0
OwnPackets =
    WhileItLasts (λ (host : Host) (r : Request) (cs : List Call).
    packets host cs ≡ replicate (suc (pushed host.edition r cs)) (request_packet host.edition r))

-- The call that ends it gives none out and tells how many were given out since start. It was given up where this call is the third of
-- these, and only there.
abbrev pub Counted : Type 0
Counted =
    WhileItLasts (λ (host : Host) (r : Request) (cs : List Call).
    (c : Call) (e : End) (n : ℕ)
    → let h = host_after host cs in
    (answer_to h c).outcome ≡ Outcome.Over e n
    → let k = pushed host.edition r (cs ++ c ∷ []) in
    (n ≡ length (packets host cs)) × (given_out h c ≡ []) × (e ≡ End.GivenUp → k ≡ 3) × (k ≡ 3 → e ≡ End.GivenUp))

-- Calls that 19 refuses are as if they had not been made.
abbrev pub with_room : List Call → List Call
with_room [] = []
with_room (c ∷ cs) = cond (has_room c) (c ∷ with_room cs) (with_room cs)

abbrev pub NotCounted : Type 0
NotCounted = (host : Host) (cs : List Call) → (host_after host cs ≡ host_after host (with_room cs)) × (packets host cs ≡ packets host (with_room cs))

-- A burst that says nothing to the request that waits, and any while nothing waits, leaves host and output as they were, and ends
-- nothing.
abbrev pub Ignored : Type 0
Ignored =
    (host : Host) (b lent : List ℕ)
    → let s = state_of host in
    (eqb (length s.given) 0 ≡ false → said s.edition s.request b ≡ None)
    → let c : Call = record { happens = burst b; lent = lent } in
    (host_after host (c ∷ []) ≡ host) × (output_after host c ≡ lent) × (given_out host c ≡ []) × (none_over host (c ∷ []) ≡ true)
