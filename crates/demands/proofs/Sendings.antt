-- How long a request lasts and what is given out for it. Assumes nothing.
use Prim.Native.Nat.{ℕ, suc, ◌+◌, ◌≤◌}
use mathlib.Core.Bool.{Bool, true, false, cond, false≢true, and-false}
use mathlib.Core.Path.{◌≡◌, refl, sym, ap, subst, ◌∙◌}
use mathlib.Core.List.{List, [], ◌∷◌, ◌++◌}
use native.Mathlib.Omega.{arith}
use borrow.Author.Tests.{eqb-true, eq-eqb}
use lib.Dec.{eqb}
use lib.ListN.{length, replicate, length-replicate}
use Rattle.packet.specs.Answered.{is_heard}
use Rattle.requests.specs.declared.Request.{Request}
use Rattle.requests.specs.Request.{request_packet, is_request}
use Rattle.host.specs.declared.Host.{Host}
use Rattle.host.specs.declared.End.{End}
use Rattle.host.specs.declared.Outcome.{Outcome}
use Rattle.host.specs.Machine.{start, State, Move, idle, waits, move, step}
use Rattle.host.specs.Calls.{host_of, state_of, step_of, call}
use Rattle.demands.specs.HostCalls.{Call, has_room, answer_to, given_out, host_after, packets, none_over}
use Rattle.demands.specs.Numbers.{number_in}
use Rattle.demands.specs.Sendings.{pushed, Started, OverWithThird, OwnPackets, Counted}
use Rattle.demands.proofs.HostCalls.{one-given, packet_some, refused, roomy, asked, start_by, start_by_lem}
use Rattle.demands.proofs.WhileAsking.{is_given_up, given_up, waiting_host, Lasted, lasted, pushed-behind, counted_at}

abbrev is_waiting : Outcome → Bool
is_waiting Outcome.Idle = false
is_waiting Outcome.Resting = false
is_waiting Outcome.Waiting = true
is_waiting (Outcome.Over e n) = false
is_waiting (Outcome.Refused r) = false

module _ (s : State) (r : Request) where
  waits_by : (a b c d : Bool) → is_waiting (start_by s r a b c d).outcome ≡ true → start_by s r a b c d ≡ move (asked s r) (asked s r).given Outcome.Waiting []
  waits_by true b c d e = absurd (false≢true e)
  waits_by false true c d e = absurd (false≢true e)
  waits_by false false true true e = refl
  waits_by false false true false e = absurd (false≢true e)
  waits_by false false false d e = absurd (false≢true e)

  begun_by : (a b c d : Bool) → number_in (start_by s r a b c d).outcome ≡ 0
      → ((start_by s r a b c d).sent ≡ (asked s r).given) × ((start_by s r a b c d).outcome ≡ cond d Outcome.Waiting (Outcome.Over End.Unheard 1))
      × ((start_by s r a b c d).next ≡ cond d (asked s r) (idle s.edition))
  begun_by true b c d e = absurd (omega (arith, e))
  begun_by false true c d e = absurd (omega (arith, e))
  begun_by false false true true e = (refl, refl, refl)
  begun_by false false true false e = (refl, refl, refl)
  begun_by false false false d e = absurd (omega (arith, e))

pub started : Started
unfolding step_of
started host r first starts e = go (has_room first) refl
  where
    go : (t : Bool) → has_room first ≡ t
        → (given_out host first ≡ request_packet host.edition r ∷ [])
        × ((answer_to host first).outcome ≡ cond (is_heard r.id r.group) Outcome.Waiting (Outcome.Over End.Unheard 1))
        × ((answer_to host first).host ≡ host_of (cond (is_heard r.id r.group) (asked (state_of host) r) (idle host.edition)))
    go true room =
        let s = state_of host in
        let m = roomy host first room ∙ ap (step s) starts ∙ start_by_lem s r in
        let told = ap (λ (x : Move). x.outcome) m in
        let (sent, outcome, next) = begun_by s r (waits s) s.resting (is_request s.edition r) (is_heard r.id r.group) (sym (ap number_in told) ∙ e) in
        (one-given (call first.lent s first.happens) first.lent _ (packet_some host.edition r) (ap (λ (x : Move). x.sent) m ∙ sent), told ∙ outcome, ap (λ (x : Move). host_of x.next) m ∙ ap host_of next)
    go false short = absurd (omega (arith, sym (ap number_in (refused host first short).told) ∙ e))

module _ (host : Host) (r : Request) (first : Call) (cs : List Call) (starts : first.happens ≡ start r) (told-waiting : (answer_to host first).outcome ≡ Outcome.Waiting)
    (lasts : none_over (answer_to host first).host cs ≡ true) where
  abbrev own : List ℕ
  own = request_packet host.edition r

  abbrev k : ℕ
  k = pushed host.edition r cs

  taken : call first.lent (state_of host) first.happens ≡ move (asked (state_of host) r) (own ∷ []) Outcome.Waiting []
  unfolding step_of
  taken = go (has_room first) refl
    where
      go : (t : Bool) → has_room first ≡ t → call first.lent (state_of host) first.happens ≡ move (asked (state_of host) r) (own ∷ []) Outcome.Waiting []
      go true room =
          let m = roomy host first room ∙ ap (step (state_of host)) starts ∙ start_by_lem (state_of host) r in
          let s = state_of host in
          m ∙ waits_by s r (waits s) s.resting (is_request s.edition r) (is_heard r.id r.group) (ap (λ (x : Move). is_waiting x.outcome) (sym m) ∙ ap is_waiting told-waiting)
      go false short = absurd (false≢true (ap is_waiting (sym (refused host first short).told) ∙ ap is_waiting told-waiting))

  next : (answer_to host first).host ≡ waiting_host host.edition r 0
  unfolding step_of
  next = ap (λ (m : Move). host_of m.next) taken

  life : Lasted host.edition r 0 cs
  life = lasted host.edition r 0 cs (subst (λ (h : Host). none_over h cs ≡ true) next lasts)

  -- the start does not count
  from_start : (ds : List Call) → pushed host.edition r (first ∷ ds) ≡ pushed host.edition r ds
  from_start ds = rw (starts, and-false (has_room first)) (omega arith)

  third : pushed host.edition r (first ∷ cs) ≤ 2
  third = let few = life.few (omega arith) in rw (from_start cs) (omega arith)

  given_all : packets host (first ∷ cs) ≡ replicate (suc k) own
  given_all =
      ap (λ (l : List (List ℕ)). l ++ packets (answer_to host first).host cs) (one-given _ first.lent own (packet_some host.edition r) (ap (λ (m : Move). m.sent) taken))
      ∙ ap (λ (h : Host). own ∷ packets h cs) next ∙ ap (λ (l : List (List ℕ)). own ∷ l) life.sent

  ended_with : (c : Call) (e : End) (n : ℕ) → let h = host_after host (first ∷ cs) in (answer_to h c).outcome ≡ Outcome.Over e n
      → let k = pushed host.edition r ((first ∷ cs) ++ c ∷ []) in
      (n ≡ length (packets host (first ∷ cs))) × (given_out h c ≡ []) × (e ≡ End.GivenUp → k ≡ 3) × (k ≡ 3 → e ≡ End.GivenUp)
  ended_with c e n q =
      let all : k + 0 ≡ k = omega arith in
      let here = ap (λ (h : Host). host_after h cs) next ∙ life.host ∙ ap (waiting_host host.edition r) all in
      let few = life.few (omega arith) in
      let (count, none, up) = counted_at host.edition r k (omega arith) c e n (subst (λ (h : Host). (answer_to h c).outcome ≡ Outcome.Over e n) here q) in
      let third_up : is_given_up e ≡ eqb (pushed host.edition r ((first ∷ cs) ++ c ∷ [])) 3
      = up ∙ ap (λ (j : ℕ). eqb j 3) (sym (from_start (cs ++ c ∷ []) ∙ pushed-behind host.edition r cs c)) in (
        count ∙ sym (ap (λ (l : List (List ℕ)). length l) given_all ∙ simp length-replicate (omega arith)),
        subst (λ (h : Host). given_out h c ≡ []) (sym here) none,
        (λ g. eqb-true _ 3 (sym third_up ∙ ap is_given_up g)),
        (λ t. given_up e (third_up ∙ eq-eqb _ 3 t)),
      )

pub over_with_third : OverWithThird
over_with_third = third

pub own_packets : OwnPackets
own_packets host r first cs starts told lasts = given_all host r first cs starts told lasts ∙ rw (from_start host r first cs starts told lasts cs)

pub counted : Counted
counted = ended_with
