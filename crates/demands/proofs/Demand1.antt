-- Demand 1. Assumes nothing.
use Prim.Native.Nat.{ℕ, ◌<◌}
use mathlib.Core.Bool.{Bool, true, false, cond, false≢true, ◌&&◌}
use mathlib.Core.Logic.{inl, inr}
use mathlib.Core.Path.{◌≡◌, refl, sym, ap, ◌∙◌}
use mathlib.Core.List.{List, [], flatten}
use Rattle.std.specs.Prelude.{Ok, Err, Option, Some, None, is_some}
use native.Mathlib.Omega.{arith}
use lib.Dec.{leb, eqb}
use lib.ListN.{length, get_or, drop}
use Rattle.lists.proofs.Laid.{behind-over}
use Rattle.packet.specs.declared.MonitorId.{MonitorId}
use Rattle.packet.specs.declared.GroupId.{GroupId}
use Rattle.packet.specs.declared.Verdict.{Verdict}
use Rattle.packet.specs.Packet.{longest}
use Rattle.lists.specs.Lists.{laid_over}
use Rattle.panels.specs.declared.Table.{Table}
use Rattle.panels.specs.declared.Panel.{Panel}
use Rattle.table_calls.specs.declared.Refusal.{Refusal}
use Rattle.panels.specs.Wall.{Wall, blank, place_of, panels_of}
use Rattle.panels.specs.Addressed.{reaches}
use Rattle.table_calls.specs.Calls.{add_refusal, added, without, removed}
use Rattle.answers.specs.Reply.{sent_bytes, sent_of, refusal_number as answer_number, output_of as answer_output}
use Rattle.answers.specs.Judged.{command}
use Rattle.answers.specs.Played.{turned, answered_by, answered}
use Rattle.lists.proofs.Mapped.{map_same}
use Rattle.answers.proofs.Turned.{either_way, stays}
use Rattle.image_write.specs.declared.Refusal.{Refusal as WriteRefusal}
use Rattle.image_write.specs.Written.{setup_of, size_of, loses_nothing, written_of, written_number as image_number, output_of as image_output}
use Rattle.image_read.specs.Read.{in_table}
use Rattle.image_back.proofs.Back.{image_size}
use Rattle.host.specs.declared.Refusal.{Refusal as HostRefusal}
use Rattle.host.specs.declared.Outcome.{Outcome}
use Rattle.host.specs.Machine.{Happening, State, Move, quiet, step}
use Rattle.host.specs.Calls.{host_of, state_of, step_of, call}
use Rattle.host.proofs.Answers.{host_back}
use Rattle.host.proofs.EachMove.{step-holds}
use Rattle.demands.specs.Demand1.{AddRefused, RemoveRefused, ReadRefused, CallRefused, Bad, BadBurst, AnswerAlone, ImageAlone}

pub add-refused : AddRefused
unfolding added
add-refused w i g n k refused = go (add_refusal w i g n k) _ refused
  where
    go : (r : Option Refusal) (then : Wall) → (r ≡ None → ⊥) → cond (is_some r) w then ≡ w
    go None then n = absurd (n refl)
    go (Some refusal) then n = refl

pub remove-refused : RemoveRefused
unfolding removed
remove-refused w i refused = go (place_of i w) refused
  where
    go : (q : Option ℕ) → (cond (is_some q) None (Some Refusal.NoPanel) ≡ None → ⊥) → without q w ≡ w
    go (Some k) n = absurd (n refl)
    go None n = refl

pub bad_burst : BadBurst
unfolding answered turned
bad_burst w r bad = go r.verdict bad
  where
    stay : (i : MonitorId) (g : GroupId) (n : ℕ) (p : Panel) → Bad (Verdict.Intact i g n) r.part p → turned i g (command r.part) p ≡ p
    stay i g n p (inl past) = stays i g _ p past
    stay i g n p (inr e) = rw e (either_way (reaches i g p) refl)

    go : (v : Verdict) → ((k : ℕ) → k < length w → Bad v r.part (get_or w k blank)) → (answered_by v w r.part r.seems).wall ≡ w
    go Verdict.Empty h = refl
    go (Verdict.Damaged d) h = refl
    go (Verdict.Intact i g n) h = map_same _ blank w (λ k s. stay i g n (get_or w k blank) (h k s))

pub answer_alone : AnswerAlone
unfolding sent_of answer_output
answer_alone edition out r = go (leb longest (length out))
  where
    go : (t : Bool)
        → let bytes = sent_bytes edition r in
        let n = cond (eqb (answer_number (cond t (Some (length bytes)) None)) 0) (length bytes) 0 in
        drop n (cond t (laid_over bytes out) out) ≡ drop n out
    go true = behind-over (sent_bytes edition r) out
    go false = refl

pub image_alone : ImageAlone
unfolding written_of image_output
image_alone form t f out = go (loses_nothing form (panels_of t)) (leb (size_of form (panels_of t)) (length out))
  where
    go : (a b : Bool)
        → let n = cond (eqb (image_number (cond a (cond b (Ok (size_of form (panels_of t))) (Err WriteRefusal.NoRoom)) (Err WriteRefusal.WouldLose))) 0) (size_of form (panels_of t)) 0 in
        drop n (cond (a && b) (laid_over (setup_of form (panels_of t)) out) out) ≡ drop n out
    go true true = rw (← image_size form (panels_of t) f.good) (behind-over (setup_of form (panels_of t)) out)
    go true false = refl
    go false b = refl

-- a refusal gives no table
pub read_refused : ReadRefused
read_refused image r e = (ap in_table e, λ t g. let told = sym (ap in_table e) ∙ g in let z : ◌≡◌ {A = ℕ} 0 1 = cc in absurd (omega arith))

-- A refused call of the host: it gives nothing out, and stays.
abbrev Stays : State → Move → Type 0
Stays s m = (r : HostRefusal) → m.outcome ≡ Outcome.Refused r → (m.next ≡ s) × (m.sent ≡ [])

abbrev is_refused : Outcome → Bool
is_refused Outcome.Idle = false
is_refused Outcome.Resting = false
is_refused Outcome.Waiting = false
is_refused (Outcome.Over e n) = false
is_refused (Outcome.Refused r) = true

taken : {s next : State} {sent : List (List ℕ)} (o : Outcome) → is_refused o ≡ false
    → (r : HostRefusal) → o ≡ Outcome.Refused r → (next ≡ s) × (sent ≡ [])
taken o h r e = absurd (false≢true (sym h ∙ ap is_refused e))

one_of : (s : State) (t : Bool) (m n : Move) → Stays s m → Stays s n → Stays s (cond t m n)
one_of s true m n h k = h
one_of s false m n h k = k

quiet_stays : (s : State) (o : Outcome) → Stays s (quiet s o)
quiet_stays s o r e = (refl, refl)

step_stays : (s : State) (h : Happening) → Stays s (step s h)
step_stays s = step-holds s (Stays s) (record {
  stays = λ o e. quiet_stays s o;
  starts = λ r. taken _ refl;
  unheard = λ r. taken _ refl;
  sends = taken _ refl;
  ends = λ e vs may. taken _ refl;
  rested = taken _ refl;
  tells = λ d m held. held;
})

pub call-refused : CallRefused
unfolding call step_of laid_over flatten
call-refused out host h r e =
    let s = state_of host in
    let (next, none) = one_of s (leb longest (length out)) _ _ (step_stays s h) (quiet_stays s _) r e in
    (ap host_of next ∙ host_back host, rw none)
