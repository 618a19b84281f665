-- Calls while a request waits: each goes on with it, or ends it. Assumes nothing.
use Prim.Native.Nat.{ℕ, suc, ◌+◌, ◌≤◌}
use mathlib.Core.Bool.{Bool, true, false, cond, not, false≢true, ◌&&◌}
use mathlib.Core.Logic.{◌⊎◌, inl, inr, ⊎_elim}
use mathlib.Core.Path.{◌≡◌, refl, sym, ap, subst, ◌∙◌}
use mathlib.Core.List.{List, [], ◌∷◌, ◌++◌}
use native.Mathlib.Omega.{arith}
use borrow.Author.Tests.{ltb-true, ltb-false, eq-eqb, ne_eqb, lt-ltb}
use lib.Dec.{ltb, eqb}
use lib.ListN.{length, take, drop, replicate, length-replicate, replicate-append-replicate}
use Rattle.std.specs.Prelude.{Option, Some, None}
use Rattle.lists.specs.Lists.{same}
use Rattle.lists.proofs.Both.{both}
use Rattle.settings.specs.Settings.{get_code}
use Rattle.std.proofs.Common.{Option, Some, None}
use Rattle.codes.specs.declared.Code.{Code}
use Rattle.codes.specs.Found.{found_by}
use Rattle.models.specs.Models.{allowed_for}
use Rattle.packet.specs.declared.Damage.{Damage}
use Rattle.packet.specs.declared.Edition.{Edition}
use Rattle.packet.specs.Packet.{is_intact}
use Rattle.packet.specs.Reading.{reading_of}
use Rattle.requests.specs.declared.Request.{Request}
use Rattle.requests.specs.declared.Said.{Said}
use Rattle.requests.specs.Request.{is_power_off, request_packet}
use Rattle.host.specs.declared.Phase.{Phase}
use Rattle.host.specs.declared.Host.{Host}
use Rattle.host.specs.declared.End.{End}
use Rattle.host.specs.declared.Outcome.{Outcome}
use Rattle.host.specs.Machine.{Happening, start, burst, mark, Move, most_sendings, is_over, quiet, over, again, nav_ends, ending, heard, telling, step}
use Rattle.host.specs.Heard.{said_to}
use Rattle.host.proofs.Answers.{host_back}
use Rattle.host.specs.Calls.{host_of, state_of, step_of, call}
use Rattle.demands.specs.Editions.{heeds}
use Rattle.demands.specs.HostCalls.{Call, has_room, answer_to, given_out, host_after, packets, none_over, sendings_in}
use Rattle.demands.specs.HostMoves.{data_in, ends_by, said}
use Rattle.demands.specs.Sendings.{is_nack, pushes, pushed}
use Rattle.demands.proofs.HostCalls.{given, none-given, one-given, packet_some, without_room, roomy, end_in}
use Rattle.demands.proofs.HostMoves.{said_is}

abbrev pub is_given_up : End → Bool
is_given_up End.Unheard = false
is_given_up End.Ack = false
is_given_up End.Nav = false
is_given_up End.OffOrRefused = false
is_given_up End.Report = false
is_given_up End.GivenUp = true

pub given_up : (e : End) → is_given_up e ≡ true → e ≡ End.GivenUp
given_up End.Unheard t = absurd (false≢true t)
given_up End.Ack t = absurd (false≢true t)
given_up End.Nav t = absurd (false≢true t)
given_up End.OffOrRefused t = absurd (false≢true t)
given_up End.Report t = absurd (false≢true t)
given_up End.GivenUp t = refl

-- a burst that says NACK
abbrev says_nack : Option Said → Bool
says_nack (Some Said.Ack) = false
says_nack (Some Said.Nack) = true
says_nack (Some Said.Nav) = false
says_nack (Some Said.Report) = false
says_nack None = false

no_other : (r : Request) (f : Option Code) (d : List ℕ) → says_nack (ends_by r f d) ≡ false
no_other r (Some (Code.Set row)) d = go (same d (0x00 ∷ 0x06 ∷ []))
  where
    go : (t : Bool) → says_nack (cond t (Some Said.Ack) None) ≡ false
    go true = refl
    go false = refl
no_other r (Some (Code.Get row)) d = go (same (take 1 d) (get_code row ∷ []) && allowed_for r.model row (drop 1 d))
  where
    go : (t : Bool) → says_nack (cond t (Some Said.Report) None) ≡ false
    go true = refl
    go false = refl
no_other r None d = refl

nack_said : (edition : Edition) (r : Request) (b : List ℕ) → says_nack (said edition r b) ≡ is_nack edition r b
nack_said edition r b =
    let d = data_in edition b in
    go (is_intact edition b) (heeds edition r b) (same d (0x00 ∷ 0x15 ∷ [])) (same d (0x00 ∷ 0x18 ∷ [])) (ends_by r (found_by r.code) d) (no_other r (found_by r.code) d)
  where
    go : (a c n v : Bool) (w : Option Said) → says_nack w ≡ false → says_nack (cond (a && c) (cond n (Some Said.Nack) (cond v (Some Said.Nav) w)) None) ≡ (a && (c && n))
    go false c n v w e = refl
    go true false n v w e = refl
    go true true true v w e = refl
    go true true false true w e = refl
    go true true false false w e = e

-- One call while a request waits whose packet was sent n times behind the first; `push` says whether it is a NACK or a mark that counts.

abbrev more : Bool → ℕ → ℕ
more true n = suc n
more false n = n

module _ (edition : Edition) (r : Request) where
  abbrev pub packet : List ℕ
  packet = request_packet edition r

  abbrev pub waiting_host : ℕ → Host
  waiting_host n = record { edition = edition; phase = Phase.Waiting (record { request = r; again = n }) }

  -- it is over, as given up where push says so, and then it was the third
  record Ends (n : ℕ) (push : Bool) (m : Move) : Type 0 where
    pub how : End
    pub told : m.outcome ≡ Outcome.Over how (suc n)
    pub none : m.sent ≡ []
    pub up : is_given_up how ≡ push
    pub third : push ≡ true → 2 ≤ n

  -- or it goes on, with a packet more where push says so
  record Goes (n : ℕ) (push : Bool) (m : Move) : Type 0 where
    pub next : m.next ≡ state_of (waiting_host (more push n))
    pub sent : m.sent ≡ replicate (cond push 1 0) packet
    pub goes : is_over m.outcome ≡ false
    pub few : push ≡ true → n ≤ 1

  abbrev One : ℕ → Bool → Move → Type 0
  One n push m = Ends n push m ⊎ Goes n push m

  stays : (n : ℕ) (o : Outcome) → is_over o ≡ false → One n false (quiet (state_of (waiting_host n)) o)
  stays n o e = inr (record { next = refl; sent = refl; goes = e; few = λ t. absurd (false≢true t) })

  sent-again : (n : ℕ) → One n true (again (state_of (waiting_host n)))
  unfolding again
  sent-again n = go (ltb (suc n) most_sendings) refl
    where
      go : (t : Bool) → ltb (suc n) most_sendings ≡ t → One n true (again (state_of (waiting_host n)))
      go true e = inr (rw (length-replicate, e) (record { next = refl; sent = refl; goes = refl; few = λ t. omega (arith, ltb-true (suc n) most_sendings e) }))
      go false e = inl (rw (length-replicate, e) (record { how = End.GivenUp; told = refl; none = refl; up = refl; third = λ t. omega (arith, ltb-false (suc n) most_sendings e) }))

  ends : (n : ℕ) (e : End) (vs : List ℕ) → is_given_up e ≡ false → One n false (over (state_of (waiting_host n)) [] e vs)
  ends n e vs f = inl (record { how = e; told = rw length-replicate; none = refl; up = f; third = λ t. absurd (false≢true t) })

  nav_other : (n : ℕ) → is_given_up (nav_ends (state_of (waiting_host n))) ≡ false
  unfolding nav_ends
  nav_other n = go (is_power_off r && ltb 1 (suc (length (replicate n packet))))
    where
      go : (t : Bool) → is_given_up (cond t End.OffOrRefused End.Nav) ≡ false
      go true = refl
      go false = refl

  told : (n : ℕ) (d : List ℕ) (w : Option Said) → One n (says_nack w) (ending (state_of (waiting_host n)) d w)
  unfolding ending
  told n d (Some Said.Ack) = ends n End.Ack [] refl
  told n d (Some Said.Nack) = sent-again n
  told n d (Some Said.Nav) = ends n _ [] (nav_other n)
  told n d (Some Said.Report) = ends n End.Report _ refl
  told n d None = stays n Outcome.Waiting refl

  -- what is wrong with a burst changes nothing of that
  telling_on : (n : ℕ) (push : Bool) (d : Option Damage) (m : Move) → One n push m → One n push (telling d m)
  telling_on n push d m =
      ⊎_elim
      (λ (o : Ends n push m). inl (record { how = o.how; told = o.told; none = o.none; up = o.up; third = o.third }))
      (λ (g : Goes n push m). inr (record { next = g.next; sent = g.sent; goes = g.goes; few = g.few }))

  one-step : (n : ℕ) (h : Happening) → One n (pushes edition r h) (step (state_of (waiting_host n)) h)
  unfolding step heard
  one-step n (start other) = rw (length-replicate, lt-ltb 0 (suc n) (omega arith)) (stays n _ refl)
  one-step n (burst b) = rw (length-replicate, lt-ltb 0 (suc n) (omega arith), ← nack_said edition r b, ← said_is edition r b) (telling_on n _ _ _ (told n _ (said_to r (reading_of edition b))))
  one-step n mark = rw (length-replicate, lt-ltb 0 (suc n) (omega arith)) (sent-again n)

  abbrev counts : Call → Bool
  counts c = has_room c && pushes edition r c.happens

  one-call : (n : ℕ) (c : Call) → One n (counts c) (call c.lent (state_of (waiting_host n)) c.happens)
  one-call n c = go (has_room c) refl
    where
      go : (t : Bool) → has_room c ≡ t → One n (counts c) (call c.lent (state_of (waiting_host n)) c.happens)
      go true e = rw (roomy (waiting_host n) c e, e) (one-step n c.happens)
      go false e = rw (without_room (waiting_host n) c e, e) (stays n _ refl)

  -- what a caller sees of it
  gives : (push : Bool) (m : Move) (lent : List ℕ) → m.sent ≡ replicate (cond push 1 0) packet → given m lent ≡ replicate (cond push 1 0) packet
  gives true m lent e = one-given m lent packet (packet_some edition r) e
  gives false m lent e = none-given m lent e

  -- All calls while it lasts.

  pub record Lasted (n : ℕ) (cs : List Call) : Type 0 where
    pub host : host_after (waiting_host n) cs ≡ waiting_host (pushed edition r cs + n)
    pub sent : packets (waiting_host n) cs ≡ replicate (pushed edition r cs) packet
    pub few : n ≤ 2 → pushed edition r cs + n ≤ 2

  sum : (push : Bool) (k n : ℕ) → k + more push n ≡ (cond push 1 0 + k) + n
  sum true k n = omega arith
  sum false k n = omega arith

  asked_next : (n : ℕ) (c : Call) (push : Bool) → Goes n push (call c.lent (state_of (waiting_host n)) c.happens) → (answer_to (waiting_host n) c).host ≡ waiting_host (more push n)
  unfolding step_of
  asked_next n c push g = ap host_of g.next ∙ host_back (waiting_host (more push n))

  extended : (n : ℕ) (c : Call) (cs : List Call) (push : Bool) → counts c ≡ push
      → Goes n push (call c.lent (state_of (waiting_host n)) c.happens) → Lasted (more push n) cs → Lasted n (c ∷ cs)
  unfolding step_of
  extended n c cs push e g rest =
      let next = asked_next n c push g in
      let out = gives push (call c.lent (state_of (waiting_host n)) c.happens) c.lent g.sent in
      let k = pushed edition r cs in
      record {
        host = ap (λ (h : Host). host_after h cs) next ∙ rest.host ∙ rw e (ap waiting_host (sum push k n));
        sent = ap (λ (l : List (List ℕ)). l ++ packets (answer_to (waiting_host n) c).host cs) out ∙ ap (λ (h : Host). replicate (cond push 1 0) packet ++ packets h cs) next
            ∙ ap (λ (l : List (List ℕ)). replicate (cond push 1 0) packet ++ l) rest.sent ∙ replicate-append-replicate (cond push 1 0) k packet ∙ rw e;
        few = λ l. let total = sum push k n in rw e (omega (arith, rest.few (step-few push l g.few)));
      }
    where
      step-few : (push : Bool) → n ≤ 2 → (push ≡ true → n ≤ 1) → more push n ≤ 2
      step-few true l f = let one = f refl in omega arith
      step-few false l f = l

  ended_not : (n : ℕ) (c : Call) → Ends n (counts c) (call c.lent (state_of (waiting_host n)) c.happens) → not (is_over (answer_to (waiting_host n) c).outcome) ≡ true → ⊥
  unfolding step_of
  ended_not n c o goes = false≢true (sym (ap (λ (x : Outcome). not (is_over x)) o.told) ∙ goes)

  pub lasted : (n : ℕ) (cs : List Call) → none_over (waiting_host n) cs ≡ true → Lasted n cs
  lasted n [] e = record { host = ap waiting_host (omega arith); sent = refl; few = λ l. omega arith }
  lasted n (c ∷ cs) e =
      let m = call c.lent (state_of (waiting_host n)) c.happens in
      let (not_over, rest) = both (not (is_over (answer_to (waiting_host n) c).outcome)) _ e in
      ⊎_elim
      (λ (o : Ends n (counts c) m). absurd (ended_not n c o not_over))
      (λ (g : Goes n (counts c) m).
      extended n c cs (counts c) refl g
      (lasted (more (counts c) n) cs (subst (λ (h : Host). none_over h cs ≡ true) (asked_next n c (counts c) g) rest)))
      (one-call n c)

  pub pushed-behind : (cs : List Call) (c : Call) → pushed edition r (cs ++ c ∷ []) ≡ cond (counts c) 1 0 + pushed edition r cs
  pushed-behind [] c = refl
  pushed-behind (x ∷ cs) c = let ih = pushed-behind cs c in omega (arith, ih)

  -- The call that ends it.

  pub counted_at : (k : ℕ) → k ≤ 2 → (c : Call) (e : End) (n : ℕ) → (answer_to (waiting_host k) c).outcome ≡ Outcome.Over e n
      → (n ≡ suc k) × (given_out (waiting_host k) c ≡ []) × (is_given_up e ≡ eqb (cond (counts c) 1 0 + k) 3)
  unfolding step_of
  counted_at k few c e n q =
      let m = call c.lent (state_of (waiting_host k)) c.happens in
      ⊎_elim
      (λ (o : Ends k (counts c) m).
      let same_end = sym q ∙ o.told in
      (ap sendings_in same_end, none-given m c.lent o.none, ap (λ (x : Outcome). is_given_up (end_in x)) same_end ∙ o.up ∙ third (counts c) o.third))
      (λ (g : Goes k (counts c) m). absurd (false≢true (sym g.goes ∙ ap is_over q)))
      (one-call k c)
    where
      third : (push : Bool) → (push ≡ true → 2 ≤ k) → push ≡ eqb (cond push 1 0 + k) 3
      third true t = let three = t refl in sym (eq-eqb (1 + k) 3 (omega arith))
      third false t = sym (ne_eqb (0 + k) 3 (λ z. omega arith))
