-- Calls of the host one after the other. Assumes nothing.
use Prim.Native.Nat.{ℕ}
use mathlib.Core.Bool.{Bool, true, false, cond}
use mathlib.Core.Path.{◌≡◌, refl}
use mathlib.Core.List.{List, [], ◌∷◌, ◌++◌, flatten}
use native.Mathlib.Omega.{arith}
use lib.Dec.{eqb}
use lib.ListN.{length, take}
use Rattle.std.specs.Prelude.{None, Option}
use Rattle.lists.specs.Lists.{laid_over}
use Rattle.packet.specs.declared.Damage.{Damage}
use Rattle.packet.specs.declared.Edition.{Edition}
use Rattle.packet.specs.Answered.{is_heard}
use Rattle.packet.specs.Packet.{packet_of}
use Rattle.requests.specs.declared.Request.{Request}
use Rattle.requests.specs.Request.{request_packet, is_request}
use Rattle.host.specs.declared.Host.{Host}
use Rattle.host.specs.declared.End.{End}
use Rattle.host.specs.declared.Outcome.{Outcome}
use Rattle.host.specs.declared.Refusal.{Refusal}
use Rattle.host.specs.Machine.{start, State, Move, waiting_for, waits, move, quiet, over, begun, telling, step}
use Rattle.host.specs.Calls.{state_of, step_of, bytes_of, call}
use Rattle.demands.specs.HostCalls.{Call, has_room, answer_to, output_after, given_out, host_after, packets}
use Rattle.std.proofs.lemmas.Grind.{common_steps}

-- What a call gives out is the packet of its move.

module _ (m : Move) (lent : List ℕ) where
  abbrev pub given : List (List ℕ)
  given = let n = (step_of m).length in cond (eqb n 0) [] (take n (laid_over (bytes_of m) lent) ∷ [])

  pub none-given : m.sent ≡ [] → given ≡ []
  unfolding step_of flatten
  none-given e = rw e

  pub one-given : (p : List ℕ) → eqb (length p) 0 ≡ false → m.sent ≡ p ∷ [] → given ≡ p ∷ []
  unfolding step_of flatten laid_over
  one-given p some e = grind (arith, common_steps)

pub packet_some : (edition : Edition) (r : Request) → eqb (length (request_packet edition r)) 0 ≡ false
unfolding request_packet packet_of
packet_some edition r = grind (arith, common_steps)

-- A call whose move is quiet leaves the host and the output as they are, and gives nothing out.

pub record Stays (host : Host) (c : Call) (o : Outcome) : Type 0 where
  pub same_host : (answer_to host c).host ≡ host
  pub same_output : output_after host c ≡ c.lent
  pub none : given_out host c ≡ []
  pub told : (answer_to host c).outcome ≡ o

pub stays : (host : Host) (c : Call) (o : Outcome) (d : Option Damage) → call c.lent (state_of host) c.happens ≡ telling d (quiet (state_of host) o) → Stays host c o
unfolding step_of laid_over flatten
stays host c o d e = grind (arith, common_steps)

-- One without room, which 19 refuses, is such a call.
pub without_room : (host : Host) (c : Call) → has_room c ≡ false → call c.lent (state_of host) c.happens ≡ quiet (state_of host) (Outcome.Refused Refusal.NoRoom)
unfolding call
without_room host c short = rw short

pub refused : (host : Host) (c : Call) → has_room c ≡ false → Stays host c (Outcome.Refused Refusal.NoRoom)
refused host c short = stays host c (Outcome.Refused Refusal.NoRoom) None (without_room host c short)

-- With room a call is a step.
pub roomy : (host : Host) (c : Call) → has_room c ≡ true → call c.lent (state_of host) c.happens ≡ step (state_of host) c.happens
unfolding call
roomy host c room = rw room

-- One list of calls behind another.

pub after_both : (host : Host) (cs ds : List Call) → host_after host (cs ++ ds) ≡ host_after (host_after host cs) ds
after_both host [] ds = refl
after_both host (c ∷ cs) ds = after_both (answer_to host c).host cs ds

pub packets_both : (host : Host) (cs ds : List Call) → packets host (cs ++ ds) ≡ packets host cs ++ packets (host_after host cs) ds
packets_both host [] ds = refl
packets_both host (c ∷ cs) ds = grind (arith, common_steps, packets_both (answer_to host c).host cs ds)

-- A start goes by four questions: whether a request waits, whether the host rests, whether it is a request, and whether an answer is due.

module _ (s : State) (r : Request) where
  abbrev pub asked : State
  asked = waiting_for s.edition r (request_packet s.edition r ∷ [])

  abbrev pub start_by : Bool → Bool → Bool → Bool → Move
  start_by waiting resting taken heard =
      cond waiting (quiet s (Outcome.Refused Refusal.Busy))
      (cond resting (quiet s (Outcome.Refused Refusal.Resting))
      (cond taken
      (cond heard (move asked asked.given Outcome.Waiting []) (over asked asked.given End.Unheard []))
      (quiet s (Outcome.Refused Refusal.NotARequest))))

  pub start_by_lem : step s (start r) ≡ start_by (waits s) s.resting (is_request s.edition r) (is_heard r.id r.group)
  unfolding step begun
  start_by_lem = refl

-- how a request ended that an outcome tells to be over
abbrev pub end_in : Outcome → End
end_in Outcome.Idle = End.Unheard
end_in Outcome.Resting = End.Unheard
end_in Outcome.Waiting = End.Unheard
end_in (Outcome.Over e n) = e
end_in (Outcome.Refused r) = End.Unheard
