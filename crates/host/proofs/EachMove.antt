-- What holds of each kind of move holds of every step of the machine. Assumes nothing.
use Prim.Native.Nat.{ℕ}
use mathlib.Core.Bool.{Bool, true, false, cond, ◌&&◌}
use mathlib.Core.Path.{◌≡◌, refl}
use mathlib.Core.List.{List, [], ◌∷◌}
use lib.Dec.{ltb}
use Rattle.std.specs.Prelude.{Option, Some, None}
use Rattle.packet.specs.Answered.{is_heard}
use Rattle.packet.specs.Reading.{reading_of}
use Rattle.packet.specs.declared.Damage.{Damage}
use Rattle.requests.specs.declared.Request.{Request}
use Rattle.requests.specs.declared.Said.{Said}
use Rattle.requests.specs.Request.{request_packet, is_power_off, is_request}
use Rattle.host.specs.declared.End.{End}
use Rattle.host.specs.declared.Outcome.{Outcome}
use Rattle.host.specs.Heard.{said_to}
use Rattle.host.specs.Machine.{Happening, start, burst, mark, State, Move, waiting_for, idle, sendings, most_sendings, waits, repeated, is_over, move, quiet, over, unasked, begun, again, nav_ends, ending, heard, telling, step}

-- the host of a line that has sent this request's packet, and then these
abbrev sent_to : State → Request → List (List ℕ) → State
sent_to s r given = waiting_for s.edition r (request_packet s.edition r ∷ given)

-- how a request that waits may end
abbrev pub MayEnd : State → End → Type 0
MayEnd s End.Unheard = ⊥
MayEnd s End.Ack = Unit {0}
MayEnd s End.Nav = Unit {0}
MayEnd s End.OffOrRefused = repeated s ≡ true
MayEnd s End.Report = Unit {0}
MayEnd s End.GivenUp = ltb (sendings s) most_sendings ≡ false

pub record EachMove (s : State) (P : Move → Type 0) : Type 0 where
  pub stays : (o : Outcome) → is_over o ≡ false → P (quiet s o)
  pub starts : (r : Request) → P (move (sent_to s r []) (request_packet s.edition r ∷ []) Outcome.Waiting [])
  pub unheard : (r : Request) → P (over (sent_to s r []) (request_packet s.edition r ∷ []) End.Unheard [])
  pub sends : P (move (sent_to s s.request s.given) (request_packet s.edition s.request ∷ []) Outcome.Waiting [])
  pub ends : (e : End) (vs : List ℕ) → MayEnd s e → P (over s [] e vs)
  pub rested : P (quiet (idle s.edition) Outcome.Idle)
  pub tells : (d : Option Damage) (m : Move) → P m → P (telling d m)

module _ (s : State) (P : Move → Type 0) (each : EachMove s P) where
  either : (t : Bool) {m n : Move} → P m → P n → P (cond t m n)
  either true h k = h
  either false h k = k

  unasked_goes : (resting : Bool) → is_over (unasked resting) ≡ false
  unasked_goes true = refl
  unasked_goes false = refl

  again-holds : P (again s)
  unfolding again
  again-holds = go (ltb (sendings s) most_sendings) refl
    where
      go : (t : Bool) → ltb (sendings s) most_sendings ≡ t → P (again s)
      go true e = rw e each.sends
      go false e = rw e (each.ends End.GivenUp [] e)

  nav_may : MayEnd s (nav_ends s)
  unfolding nav_ends
  nav_may = go (is_power_off s.request) (repeated s) refl
    where
      go : (p t : Bool) → repeated s ≡ t → MayEnd s (cond (p && t) End.OffOrRefused End.Nav)
      go true true e = e
      go true false e = tt
      go false t e = tt

  ending-holds : (d : List ℕ) (w : Option Said) → P (ending s d w)
  unfolding ending
  ending-holds d (Some Said.Ack) = each.ends _ _ tt
  ending-holds d (Some Said.Nack) = again-holds
  ending-holds d (Some Said.Nav) = each.ends _ _ nav_may
  ending-holds d (Some Said.Report) = each.ends _ _ tt
  ending-holds d None = each.stays _ refl

  pub step-holds : (h : Happening) → P (step s h)
  unfolding step heard begun
  step-holds (start r) =
      either (waits s) (each.stays _ refl)
      (either s.resting (each.stays _ refl)
      (either (is_request s.edition r) (either (is_heard r.id r.group) (each.starts r) (each.unheard r)) (each.stays _ refl)))
  step-holds (burst b) = each.tells _ _ (either (waits s) (ending-holds _ (said_to s.request (reading_of s.edition b))) (each.stays (unasked s.resting) (unasked_goes s.resting)))
  step-holds mark = either (waits s) again-holds each.rested
