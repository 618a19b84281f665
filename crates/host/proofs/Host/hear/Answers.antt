use mathlib.Core.Path.{◌≡◌, refl, ap, ◌∙◌}
use mathlib.Core.List.{List}
use Prim.Native.Nat.{ℕ}
use Rattle.std.specs.Prelude.{Option}
use Rattle.packet.specs.declared.Damage.{Damage}
use Rattle.packet.specs.declared.Edition.{Edition}
use Rattle.packet.specs.declared.Verdict.{Verdict}
use Rattle.packet.specs.Packet.{damage_in}
use Rattle.packet.specs.Reading.{Reading, reading_of}
use Rattle.host.specs.declared.Step.{Step}
use Rattle.host.specs.declared.Outcome.{Outcome}
use Rattle.host.specs.Machine.{quiet, heard}
use Rattle.host.specs.Calls.{asked_state, state_of}
use Rattle.host.specs.Private.Steps.{telling_step}
use Rattle.host.proofs.Moves.{no_room, idle-burst, resting-burst, burst-heard, heard_is}
use Rattle.host.proofs.Answers.{stays, tells}
use Rattle.host.proofs.Host.hear.Goals as goal

-- What is wrong with the burst is read from it. Assumes nothing.
told : (edition : Edition) (b : List ℕ) {v : Verdict} {d : Option Damage} (r : Step) {r' : Step} → v ≡ (reading_of edition b).verdict → d ≡ damage_in v → r' ≡ telling_step d r
    → r' ≡ telling_step (damage_in (reading_of edition b).verdict) r
told edition b r ev ed e = e ∙ ap (λ (x : Option Damage). telling_step x r) (ed ∙ ap damage_in ev)

pub returns-then-out-lt-LONGEST : goal.returns-then-out-lt-LONGEST
returns-then-out-lt-LONGEST c = stays _ _ _ (no_room _ _ _ c.if-out-lt-LONGEST.true) c.plain.ensures

pub returns-in-Idle : goal.returns-in-Idle
returns-in-Idle c =
    let a = c.args in
    rw (idle-burst a.out.now a.self c.if-out-lt-LONGEST.false c.in-Idle.is a.b.now)
    (tells (quiet (state_of a.self) Outcome.Idle) _ _ (stays a.self _ _ refl c.plain-in-Idle.ensures) (told a.self.edition a.b.now c.plain-in-Idle.result (ap (λ (k : Reading). k.verdict) c.read-reading.ensures) c.damage-damage.ensures c.telling.ensures))

pub returns-in-Resting : goal.returns-in-Resting
returns-in-Resting c =
    let a = c.args in
    rw (resting-burst a.out.now a.self c.if-out-lt-LONGEST.false c.in-Resting.is a.b.now)
    (tells (quiet (state_of a.self) Outcome.Resting) _ _ (stays a.self _ _ refl c.plain-in-Resting.ensures) (told a.self.edition a.b.now c.plain-in-Resting.result (ap (λ (k : Reading). k.verdict) c.read-reading.ensures) c.damage-damage.ensures c.telling-in-Resting.ensures))

pub returns-in-Waiting : goal.returns-in-Waiting
returns-in-Waiting c =
    let a = c.args in
    let s = asked_state a.self.edition c.in-Waiting.asked in
    let said = heard_is s a.b.now _ _ (ap (λ (k : Reading). k.verdict) c.read-reading.ensures) (ap (λ (k : Reading). k.part) c.read-reading.ensures) in
    rw (burst-heard a.out.now a.self c.if-out-lt-LONGEST.false _ c.in-Waiting.is a.b.now)
    (tells (heard s (reading_of a.self.edition a.b.now)) _ _ (rw said at c.heeded.ensures) (told a.self.edition a.b.now c.heeded.result (ap (λ (k : Reading). k.verdict) c.read-reading.ensures) c.damage-damage.ensures c.telling-in-Waiting.ensures))
