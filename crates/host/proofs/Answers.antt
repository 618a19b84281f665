-- What a call's plain answers mean. Assumes nothing.
use mathlib.Core.Path.{◌≡◌, refl, ap, ◌∙◌}
use mathlib.Core.List.{List, [], ◌∷◌, flatten, append-nil}
use Prim.Native.Nat.{ℕ}
use lib.ListN.{length, replicate, length-replicate}
use Rattle.std.specs.Prelude.{Option}
use Rattle.lists.specs.Lists.{laid_over}
use Rattle.packet.specs.declared.Damage.{Damage}
use Rattle.packet.specs.declared.Edition.{Edition}
use Rattle.requests.specs.Request.{request_packet}
use Rattle.host.specs.declared.Phase.{Phase}
use Rattle.host.specs.declared.Host.{Host}
use Rattle.host.specs.declared.Step.{Step}
use Rattle.host.specs.declared.End.{End}
use Rattle.host.specs.declared.Outcome.{Outcome}
use Rattle.host.specs.Machine.{Move, State, move, quiet, over, telling}
use Rattle.host.specs.Calls.{host_of, state_by, state_of, step_of, Answers}
use Rattle.host.specs.Private.Steps.{asked_host, plain_step, telling_step}

-- a host is what its state says
phase_back : (edition : Edition) (p : Phase) → host_of (state_by edition p) ≡ record { edition = edition; phase = p }
phase_back edition Phase.Idle = refl
phase_back edition Phase.Resting = refl
phase_back edition (Phase.Waiting a) =
    let many : length (replicate a.again (request_packet edition a.request)) ≡ a.again = rw length-replicate in
    ap (λ (n : ℕ). asked_host edition (record { request = a.request; again = n })) many

pub host_back : (h : Host) → host_of (state_of h) ≡ h
host_back h = phase_back h.edition h.phase

module _ {m : Move} {r : Step} where
  -- nothing is given out and nothing changes
  pub stays : (h : Host) (o : Outcome) (out : List ℕ) → m ≡ quiet (state_of h) o → r ≡ plain_step h 0 o → Answers m out r out
  unfolding step_of laid_over flatten
  stays h o out e f = rw (e, f) (rw (host_back h), refl)

  -- the request is over, and nothing is given out or a packet
  module _ (s : State) {e : End} {vs : List ℕ} {n : ℕ} (f : (packets : List (List ℕ)) → n ≡ length (flatten packets) → r ≡ step_of (over s packets e vs)) where
    pub ends : (out : List ℕ) → n ≡ 0 → m ≡ over s [] e vs → Answers m out r out
    unfolding laid_over flatten
    ends out none q = rw q (f [] none, refl)

    pub gives_last : (p out out' : List ℕ) → n ≡ length p → out' ≡ laid_over p out → m ≡ over s (p ∷ []) e vs → Answers m out r out'
    unfolding laid_over flatten
    gives_last p out out' en eo q = rw (q, eo) (f (p ∷ []) (rw append-nil en), rw append-nil)

  -- a packet is given out
  pub gives : (s : State) (p : List ℕ) (o : Outcome) (out out' : List ℕ) (h : Host) (n : ℕ)
      → h ≡ host_of s → n ≡ length p → out' ≡ laid_over p out
      → m ≡ move s (p ∷ []) o []
      → r ≡ plain_step h n o → Answers m out r out'
  unfolding step_of laid_over flatten
  gives s p o out out' h n eh en eo e f = rw (e, f, eh, en, eo) (rw append-nil, rw append-nil)

-- what is wrong with the burst stands beside
pub tells : (m : Move) {r r' : Step} (d : Option Damage) (out : List ℕ) {out' : List ℕ} → Answers m out r out' → r' ≡ telling_step d r → Answers (telling d m) out r' out'
unfolding step_of flatten
tells m d out (e, f) g = (g ∙ ap (telling_step d) e, f)
