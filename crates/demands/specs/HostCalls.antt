-- Calls of the host one after the other, each with an output that is lent for a packet. 01, "Host side".
use Rattle.std.specs.Prelude.{ℕ, Bool, true, cond, not, ◌&&◌, List, [], ◌∷◌, ◌++◌, leb, eqb, length, take}
use Rattle.lists.specs.Lists.{laid_over}
use Rattle.host.specs.declared.Host.{Host}
use Rattle.host.specs.declared.Step.{Step}
use Rattle.host.specs.declared.Outcome.{Outcome}
use Rattle.host.specs.Machine.{Happening, is_over}
use Rattle.host.specs.Calls.{state_of, step_of, bytes_of, call}

-- what happens, and the output that is lent for it
pub record Call : Type 0 where
  pub happens : Happening
  pub lent : List ℕ

-- an output under 40 bytes is refused by 19
abbrev pub has_room : Call → Bool
has_room c = leb 40 (length c.lent)

-- What a call answers, and the output after it; that `start`, `hear` and `mark` do just this is their promise (`Answers`).
abbrev pub answer_to : Host → Call → Step
answer_to host c = step_of (call c.lent (state_of host) c.happens)

abbrev pub output_after : Host → Call → List ℕ
output_after host c = laid_over (bytes_of (call c.lent (state_of host) c.happens)) c.lent

-- the packet given out: so many bytes at the front of the output, and none where these are 0
abbrev pub given_out : Host → Call → List (List ℕ)
given_out host c = let n = (answer_to host c).length in cond (eqb n 0) [] (take n (output_after host c) ∷ [])

-- the host after calls, the packets that they have given out, and whether none of them has told that a request is over
abbrev pub host_after : Host → List Call → Host
host_after host [] = host
host_after host (c ∷ cs) = host_after (answer_to host c).host cs

abbrev pub packets : Host → List Call → List (List ℕ)
packets host [] = []
packets host (c ∷ cs) = given_out host c ++ packets (answer_to host c).host cs

abbrev pub none_over : Host → List Call → Bool
none_over host [] = true
none_over host (c ∷ cs) = not (is_over (answer_to host c).outcome) && none_over (answer_to host c).host cs

-- how often the packet was sent of a request that is over; 0 where none is
abbrev pub sendings_in : Outcome → ℕ
sendings_in Outcome.Idle = 0
sendings_in Outcome.Resting = 0
sendings_in Outcome.Waiting = 0
sendings_in (Outcome.Over e n) = n
sendings_in (Outcome.Refused r) = 0
