use mathlib.Core.Path.{◌≡◌, refl, ap, ◌∙◌}
use mathlib.Core.Bool.{Bool, true, false, not, cond}
use mathlib.Core.List.{List, [], ◌∷◌}
use Prim.Native.Nat.{ℕ}
use lib.Dec.{eqb}
use lib.ListN.{length, get_or}
use lib.Pointwise.{pointwise}
use Rattle.lists.specs.Lists.{same}
use Rattle.lists.proofs.Same.{eq_same, not_same}
use Rattle.packet.specs.declared.MonitorId.{MonitorId}
use Rattle.qx.specs.Message.{message, qx_answer}
use Rattle.qx.specs.Replies.{value_says, said_to, wrong}
use Rattle.qx.proofs.hearing.said_to.Goals as goal

-- Nine bytes, as the panel would send them. Assumes nothing.
-- by whether it is the panel's
judged : (id : MonitorId) (code : ℕ) (answer : List ℕ) (t : Bool) → same answer (qx_answer id (code ∷ get_or answer 7 0 ∷ [])) ≡ t
    → cond t (value_says code (get_or answer 7 0)) wrong ≡ said_to id code answer
unfolding said_to
judged id code answer t e = rw e

other_length : (id : MonitorId) (code : ℕ) (answer : List ℕ) → (length answer ≡ 9 → ⊥) → same answer (qx_answer id (code ∷ get_or answer 7 0 ∷ [])) ≡ false
unfolding qx_answer message
other_length id code answer ne = not_same answer _ (λ e. ne (ap length e))

pub returns-then-answer-ne-ANSWER : goal.returns-then-answer-ne-ANSWER
returns-then-answer-ne-ANSWER c = let a = c.args in judged a.id a.code a.answer.now false (other_length a.id a.code a.answer.now c.if-answer-ne-ANSWER.true)

-- `!=` of two lists of bytes
not_twice : (t : Bool) → t ≡ not (not t)
not_twice true = refl
not_twice false = refl

compared : (a b c : List ℕ) {r : Bool} → r ≡ not (pointwise eqb a b) → b ≡ c → same a c ≡ not r
compared a b c e f = rw (e, ← f, eq_same a b) (not_twice (same a b))

pub returns-then-ne : goal.returns-then-ne
returns-then-ne c =
    let a = c.args in
    let other = compared a.answer.now _ (qx_answer a.id (a.code ∷ get_or a.answer.now 7 0 ∷ [])) c.ne.ensures (c.as_slice.ensures ∙ c.answer_of-right.ensures) in
    judged a.id a.code a.answer.now false (other ∙ ap not c.if-ne.true)

pub returns : goal.returns
returns c =
    let a = c.args in
    let own = compared a.answer.now _ (qx_answer a.id (a.code ∷ get_or a.answer.now 7 0 ∷ [])) c.ne.ensures (c.as_slice.ensures ∙ c.answer_of-right.ensures) in
    c.value_says.ensures ∙ judged a.id a.code a.answer.now true (own ∙ ap not c.if-ne.false)
