-- The late ACK. 02, A12: after a request that was sent more than once and answered or given up, the host must hear one 500 ms mark
-- before the next start; bursts until then are ignored. That a start before it is refused by 24 is in `Numbers`, the mark's own move in
-- `HostMoves`.
use Rattle.std.specs.Prelude.{ℕ, Bool, true, false, not, ◌&&◌, ◌≡◌, List, [], ◌∷◌, ◌++◌, leb}
use Rattle.packet.specs.declared.Edition.{Edition}
use Rattle.host.specs.declared.Host.{Host}
use Rattle.host.specs.declared.End.{End}
use Rattle.host.specs.declared.Outcome.{Outcome}
use Rattle.host.specs.Machine.{Happening, start, burst, mark, free, idle}
use Rattle.host.specs.Calls.{host_of}
use Rattle.demands.specs.HostCalls.{Call, has_room, answer_to, host_after, packets, none_over}

-- whether a mark is due after a request that ended so and was sent n times: ACK, NAV, "off or refused" and a report are answers; what is
-- given up, or "off or refused", was sent more than once, and what is unheard once
abbrev pub mark_due : End → ℕ → Bool
mark_due End.Unheard n = false
mark_due End.Ack n = leb 2 n
mark_due End.Nav n = leb 2 n
mark_due End.OffOrRefused n = true
mark_due End.Report n = leb 2 n
mark_due End.GivenUp n = true

-- When a request is over, nothing waits; the host rests where a mark is due, and else is idle.
abbrev pub RestsAfter : Type 0
RestsAfter =
    (host : Host) (c : Call) (e : End) (n : ℕ) → (answer_to host c).outcome ≡ Outcome.Over e n
    → (answer_to host c).host ≡ host_of (free host.edition (mark_due e n))

-- no mark is heard: one that 19 refuses is not
abbrev pub is_mark : Happening → Bool
is_mark (start r) = false
is_mark (burst b) = false
is_mark mark = true

abbrev pub no_mark : List Call → Bool
no_mark [] = true
no_mark (c ∷ cs) = not (has_room c && is_mark c.happens) && no_mark cs

-- Until the mark it rests: nothing is given out, and nothing is told to be over, whatever is heard or asked,
abbrev pub RestsUntilMark : Type 0
RestsUntilMark =
    (edition : Edition) (cs : List Call) → no_mark cs ≡ true
    → let rests = host_of (free edition true) in (host_after rests cs ≡ rests) × (packets rests cs ≡ []) × (none_over rests cs ≡ true)

-- and with the mark it is as one that was opened anew, to which no burst before the mark was sent. The mark by which a request is
-- given up is not that one: it is c.
abbrev pub LateAck : Type 0
LateAck =
    (host : Host) (c : Call) (e : End) (n : ℕ) → (answer_to host c).outcome ≡ Outcome.Over e n → mark_due e n ≡ true
    → (cs : List Call) → no_mark cs ≡ true → (last : Call) → has_room last ≡ true → last.happens ≡ mark
    → (host_after host (c ∷ cs ++ last ∷ []) ≡ host_of (idle host.edition)) × (packets (answer_to host c).host (cs ++ last ∷ []) ≡ [])
