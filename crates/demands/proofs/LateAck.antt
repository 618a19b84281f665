-- The late ACK. Assumes nothing.
use Prim.Native.Nat.{ℕ}
use mathlib.Core.Bool.{Bool, true, false, not, false≢true, ◌&&◌}
use mathlib.Core.Path.{◌≡◌, refl, sym, ap, ◌∙◌}
use mathlib.Core.List.{List, [], ◌∷◌}
use native.Mathlib.Omega.{arith}
use borrow.Author.Tests.{ltb-false, lt-ltb}
use lib.Dec.{ltb}
use Rattle.std.specs.Prelude.{None}
use Rattle.lists.proofs.Both.{both}
use Rattle.packet.specs.declared.Edition.{Edition}
use Rattle.host.specs.declared.Host.{Host}
use Rattle.host.specs.declared.End.{End}
use Rattle.host.specs.declared.Outcome.{Outcome}
use Rattle.host.specs.declared.Refusal.{Refusal}
use Rattle.host.specs.Machine.{Happening, start, burst, mark, State, Move, free, idle, sendings, most_sendings, is_over, step}
use Rattle.host.specs.Calls.{call, host_of, state_of, step_of}
use Rattle.host.proofs.EachMove.{MayEnd, step-holds}
use Rattle.demands.specs.HostCalls.{Call, has_room, answer_to, given_out, host_after, packets, none_over, sendings_in}
use Rattle.demands.specs.LateAck.{mark_due, RestsAfter, is_mark, no_mark, RestsUntilMark, LateAck}
use Rattle.demands.proofs.HostCalls.{none-given, Stays, stays, refused, roomy, after_both, packets_both, end_in}

-- A request that is over.

abbrev Rests : State → Outcome → State → Type 0
Rests s o next = (e : End) (n : ℕ) → o ≡ Outcome.Over e n → next ≡ free s.edition (mark_due e n)

goes_on : (s : State) (o : Outcome) (next : State) → is_over o ≡ false → Rests s o next
goes_on s o next f e n q = absurd (false≢true (sym f ∙ ap is_over q))

is_over_lem : (s : State) (how : End) (sent : ℕ) → ltb 1 sent ≡ mark_due how sent → Rests s (Outcome.Over how sent) (free s.edition (ltb 1 sent))
is_over_lem s how sent due e n q = ap (free s.edition) (due ∙ ap (λ (o : Outcome). mark_due (end_in o) (sendings_in o)) q)

due : (s : State) (e : End) → MayEnd s e → ltb 1 (sendings s) ≡ mark_due e (sendings s)
due s End.Unheard may = absurd may
due s End.Ack may = refl
due s End.Nav may = refl
due s End.OffOrRefused may = may
due s End.Report may = refl
due s End.GivenUp may = let three = ltb-false (sendings s) most_sendings may in lt-ltb 1 (sendings s) (omega arith)

step_rests : (s : State) (h : Happening) → let m = step s h in Rests s m.outcome m.next
step_rests s = step-holds s (λ (m : Move). Rests s m.outcome m.next) (record {
  stays = λ o f. goes_on s o s f;
  starts = λ r. goes_on s Outcome.Waiting _ refl;
  unheard = λ r. is_over_lem s End.Unheard 1 refl;
  sends = goes_on s Outcome.Waiting _ refl;
  ends = λ e vs may. is_over_lem s e (sendings s) (due s e may);
  rested = goes_on s Outcome.Idle _ refl;
  tells = λ d m held. held;
})

pub rests_after : RestsAfter
unfolding step_of
rests_after host c e n q = go (has_room c) refl
  where
    go : (t : Bool) → has_room c ≡ t → (answer_to host c).host ≡ host_of (free host.edition (mark_due e n))
    go true room =
        let m = roomy host c room in
        ap (λ (x : Move). host_of x.next) m ∙ ap host_of (step_rests (state_of host) c.happens e n (ap (λ (x : Move). x.outcome) (sym m) ∙ q))
    go false short = absurd (false≢true (ap is_over (sym (refused host c short).told ∙ q)))

-- The rest.

module _ (edition : Edition) where
  abbrev resting : Host
  resting = host_of (free edition true)

  abbrev Still : Call → Type 0
  Still c = ((answer_to resting c).host ≡ resting) × (given_out resting c ≡ []) × (is_over (answer_to resting c).outcome ≡ false)

  still : {o : Outcome} (c : Call) → is_over o ≡ false → Stays resting c o → Still c
  still c e s = (s.same_host, s.none, ap is_over s.told ∙ e)

  at_rest : (c : Call) (h : Happening) → c.happens ≡ h → is_mark h ≡ false → has_room c ≡ true → Still c
  unfolding step
  at_rest c (start r) e f room = still c refl (stays resting c (Outcome.Refused Refusal.Resting) None (roomy resting c room ∙ ap (step (state_of resting)) e))
  at_rest c (burst b) e f room = still c refl (stays resting c Outcome.Resting _ (roomy resting c room ∙ ap (step (state_of resting)) e))
  at_rest c mark e f room = absurd (false≢true (sym f))

  no_mark_lem : (c : Call) → not (has_room c && is_mark c.happens) ≡ true → Still c
  no_mark_lem c e = go (has_room c) refl (is_mark c.happens) refl
    where
      go : (t : Bool) → has_room c ≡ t → (m : Bool) → is_mark c.happens ≡ m → Still c
      go true room true m = absurd (false≢true (rw (room, m) at e))
      go true room false m = at_rest c c.happens refl m room
      go false short m em = still c refl (refused resting c short)

  rests_on : (cs : List Call) → no_mark cs ≡ true → (host_after resting cs ≡ resting) × (packets resting cs ≡ []) × (none_over resting cs ≡ true)
  rests_on [] e = (refl, refl, refl)
  rests_on (c ∷ cs) e =
      let (own, others) = both (not (has_room c && is_mark c.happens)) _ e in
      let (host, none, goes) = no_mark_lem c own in
      rw (none, goes, host) (rests_on cs others)

  -- the mark
  wakes : (last : Call) → has_room last ≡ true → last.happens ≡ mark → ((answer_to resting last).host ≡ host_of (idle edition)) × (given_out resting last ≡ [])
  unfolding step_of step
  wakes last room e =
      let m = roomy resting last room ∙ ap (step (state_of resting)) e in
      (ap (λ (x : Move). host_of x.next) m, none-given (call last.lent (state_of resting) last.happens) last.lent (ap (λ (x : Move). x.sent) m))

pub rests_until_mark : RestsUntilMark
rests_until_mark = rests_on

pub late_ack : LateAck
late_ack host c e n q marked-due cs quiet last room marked =
    let edition = host.edition in
    let rests : (answer_to host c).host ≡ resting edition = rests_after host c e n q ∙ rw marked-due in
    let (same_host, none, _) = rests_on edition cs quiet in
    let (woken, none-woken) = wakes edition last room marked in (
      after_both (answer_to host c).host cs (last ∷ []) ∙ rw (rests, same_host) woken,
      rw rests (packets_both (resting edition) cs (last ∷ []) ∙ rw (none, same_host, none-woken)),
    )
