-- Lines of both editions. Assumes nothing.
use Prim.Native.Nat.{ℕ}
use mathlib.Core.Bool.{false, cond}
use mathlib.Core.Path.{◌≡◌, refl, ◌∙◌}
use mathlib.Core.List.{List, []}
use lib.ListN.{get_or}
use Rattle.std.specs.Prelude.{None}
use Rattle.packet.specs.declared.Edition.{Edition}
use Rattle.packet.specs.declared.Verdict.{Verdict}
use Rattle.packet.specs.Edition.{group_on}
use Rattle.packet.specs.Packet.{monitor_id, group_id, is_intact, verdict_of, data_of}
use Rattle.packet.proofs.EachEdition.{number_back}
use Rattle.packet.proofs.Packets.{intact-verdict}
use Rattle.requests.specs.declared.Request.{Request}
use Rattle.requests.specs.Request.{is_request}
use Rattle.requests.specs.Said.{word_in}
use Rattle.line.specs.declared.Receiver.{Receiver}
use Rattle.line.specs.Receiver.{receiver_of, with_byte, at_mark}
use Rattle.line.specs.Streams.{stream_after}
use Rattle.host.specs.Heard.{said_by, said_to}
use Rattle.host.specs.Machine.{Happening, State, step}
use Rattle.host.proofs.EachMove.{step-holds}
use Rattle.demands.proofs.Demand2.{by_readings}
use Rattle.demands.specs.Editions.{OpenedByNumber, NeverGuesses, KeepsEdition, GroupZero, heeds, Heeded}
use Rattle.std.proofs.Common.{arith}
use Rattle.std.proofs.lemmas.Grind.{common_steps}

pub opened_by_number : OpenedByNumber
opened_by_number = number_back

pub never_guesses : NeverGuesses
never_guesses edition w events = stream_after edition [] w events ∙ by_readings edition w _

-- the receiver
byte-keeps : (r : Receiver) (b : ℕ) → (with_byte r b).edition ≡ r.edition
unfolding with_byte
byte-keeps r b = grind (arith, common_steps)

-- the host
step_keeps : (s : State) (h : Happening) → (step s h).next.edition ≡ s.edition
step_keeps s = step-holds s (λ m. m.next.edition ≡ s.edition) (record {
  stays = λ o e. refl;
  starts = λ r. refl;
  unheard = λ r. refl;
  sends = refl;
  ends = λ e vs may. refl;
  rested = refl;
  tells = λ d m held. held;
})

pub keeps-edition : KeepsEdition
unfolding at_mark receiver_of
keeps-edition = (byte-keeps, (λ r t. refl), step_keeps)

pub group-zero : GroupZero
unfolding is_request
group-zero r = grind (arith, common_steps)

-- of an intact burst
heeded_so : (edition : Edition) (r : Request) (b : List ℕ) (n : ℕ)
    → said_by r (Verdict.Intact (monitor_id (get_or b 1 0)) (group_id (group_on edition (get_or b 2 0))) n) (data_of edition b)
    ≡ cond (heeds edition r b) (word_in r.model r.code (data_of edition b)) None
unfolding said_by
heeded_so Edition.Sicp185 r b n = refl
heeded_so Edition.Sicp201 r b n = refl

-- and of another
ignored : (r : Request) (edition : Edition) (b d : List ℕ) → is_intact edition b ≡ false → said_by r (verdict_of edition b) d ≡ None
unfolding verdict_of is_intact said_by
ignored r edition b d e = grind (arith, common_steps)

pub heeded : Heeded
unfolding said_to
heeded edition r b = grind (arith, common_steps, data_of, heeds, word_in, intact-verdict, heeded_so, ignored)
