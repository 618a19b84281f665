-- Hosts that `LateAck` and `Counted` shut out. 01, "What the promises have to say"; 02, A12.
use Rattle.std.specs.Prelude.{ℕ, false, ◌≡◌, List, [], ◌∷◌}
use Rattle.tiling.specs.declared.Kind.{Kind}
use Rattle.settings.specs.declared.Profile.{Profile}
use Rattle.packet.specs.declared.Edition.{Edition}
use Rattle.packet.specs.Packet.{monitor_id, group_id}
use Rattle.requests.specs.declared.Request.{Request}
use Rattle.host.specs.declared.End.{End}
use Rattle.host.specs.declared.Outcome.{Outcome}
use Rattle.host.specs.declared.Refusal.{Refusal}
use Rattle.host.specs.Machine.{Happening, start, burst, mark, State, Move, idle, step}

-- what a host by this rule tells, happening after happening
unfoldable pub outcomes : (State → Happening → Move) → State → List Happening → List Outcome
outcomes rule s [] = []
outcomes rule s (h ∷ hs) = (rule s h).outcome ∷ outcomes rule (rule s h).next hs

-- one that never rests
abbrev pub restless : State → Happening → Move
restless s h =
    let m = step s h in
    let next : State = record { edition = m.next.edition; request = m.next.request; given = m.next.given; resting = false } in
    record { next = next; sent = m.sent; outcome = m.outcome; values = m.values; damage = m.damage }

-- and one that always reports three sendings
abbrev pub with_three : Outcome → Outcome
with_three Outcome.Idle = Outcome.Idle
with_three Outcome.Resting = Outcome.Resting
with_three Outcome.Waiting = Outcome.Waiting
with_three (Outcome.Over e n) = Outcome.Over e 3
with_three (Outcome.Refused r) = Outcome.Refused r

abbrev pub always_three : State → Happening → Move
always_three s h = let m = step s h in record { next = m.next; sent = m.sent; outcome = with_three m.outcome; values = m.values; damage = m.damage }

-- Panel 1, a general one, is asked for fan 4, is busy, and acknowledges both packets, the second one late, when the host would set
-- its cold start.
abbrev pub to_panel1 : ℕ → ℕ → Request
to_panel1 code value = record { model = record { profile = Profile.General; kind = Kind.FiveByFive }; id = monitor_id 1; group = group_id 0; code = code; values = value ∷ 0 ∷ 0 ∷ 0 ∷ 0 ∷ 0 ∷ 0 ∷ []; count = 1 }

abbrev pub ack_from1 : Edition → List ℕ
ack_from1 Edition.Sicp185 = 0x05 ∷ 0x01 ∷ 0x00 ∷ 0x06 ∷ 0x02 ∷ []
ack_from1 Edition.Sicp201 = 0x06 ∷ 0x01 ∷ 0x00 ∷ 0x00 ∷ 0x06 ∷ 0x01 ∷ []

abbrev pub busy_panel : Edition → List Happening
busy_panel edition = start (to_panel1 0x61 4) ∷ mark ∷ burst (ack_from1 edition) ∷ start (to_panel1 0xA3 2) ∷ burst (ack_from1 edition) ∷ []

-- The one that never rests books the late ACK for the cold start; ours refuses that start by 24 and ignores the ACK.
abbrev pub Booked : Type 0
Booked =
    (edition : Edition)
    → (outcomes restless (idle edition) (busy_panel edition)
    ≡ Outcome.Waiting ∷ Outcome.Waiting ∷ Outcome.Over End.Ack 2 ∷ Outcome.Waiting ∷ Outcome.Over End.Ack 1 ∷ [])
    × (outcomes step (idle edition) (busy_panel edition)
    ≡ Outcome.Waiting ∷ Outcome.Waiting ∷ Outcome.Over End.Ack 2 ∷ Outcome.Refused Refusal.Resting ∷ Outcome.Resting ∷ [])

abbrev pub Differs : Edition → (State → Happening → Move) → Type 0
Differs edition rule = outcomes rule (idle edition) (busy_panel edition) ≡ outcomes step (idle edition) (busy_panel edition) → ⊥

abbrev pub HostsDiffer : Type 0
HostsDiffer = (edition : Edition) → Differs edition restless × Differs edition always_three
