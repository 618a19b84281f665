use mathlib.Core.Path.{◌≡◌, refl, sym, ◌∙◌}
use mathlib.Core.List.{List, [], ◌∷◌}
use mathlib.Core.Bool.{cond}
use Prim.Native.Nat.{ℕ}
use native.Mathlib.Omega.{arith}
use lib.ListN.{length}
use Rattle.std.specs.Prelude.{Ok, Err, ◌⊎◌}
use Rattle.std.proofs.Common.{inl, inr, rules}
use Rattle.std.proofs.lemmas.Result.{err_from_is_err_and}
use Rattle.packet.specs.declared.MonitorId.{MonitorId}
use Rattle.qx.specs.declared.Reply.{Reply}
use Rattle.qx.specs.declared.NoAnswer.{NoAnswer}
use Rattle.qx.specs.Replies.{Answer, said_to, replies_to, is_ack, joined}
use Rattle.qx.proofs.Replies.{alone, joined_first, joined_wrong, joined_ack, replies_end}
use Rattle.qx.proofs.hearing.hear_each.Goals as goal

-- The first code and answer that are left, and those behind them. Assumes nothing.
module _ (id : MonitorId) (a : Reply) {cs cs' : List ℕ} {bs bs' : List (List ℕ)} {c : ℕ} {b : List ℕ} (e : cs ≡ c ∷ cs') (f : bs ≡ b ∷ bs') where
  next : {s : Answer} → s ≡ said_to id c b → joined (Ok a ∷ replies_to id cs bs) ≡ joined (Ok a ∷ s ∷ replies_to id cs' bs')
  unfolding replies_to
  next q = rw (e, f, q)

  wrong_next : {s : Answer} {w : NoAnswer} → s ≡ said_to id c b → s ≡ Err w → joined (Ok a ∷ replies_to id cs bs) ≡ Err w
  wrong_next {w = w} q k = next (sym k ∙ q) ∙ joined_wrong a w _

  reply_next : {s : Answer} {r : Reply} → s ≡ said_to id c b → s ≡ Ok r → joined (Ok a ∷ replies_to id cs bs) ≡ joined (Ok (cond (is_ack (Ok a)) r a) ∷ replies_to id cs' bs')
  reply_next {r = r} q k = next (sym k ∙ q) ∙ sym (joined_first a r _)

after_ack : (a b : Reply) → a ≡ Reply.Ack → cond (is_ack (Ok a)) b a ≡ b
after_ack a b e = rw e

after_other : (a b : Reply) → (a ≡ Reply.Ack → ⊥) → cond (is_ack (Ok a)) b a ≡ a
after_other Reply.Ack b ne = absurd (ne refl)
after_other Reply.Nack b ne = refl
after_other Reply.Nav b ne = refl
after_other (Reply.Report v) b ne = refl

-- no code is left, or no answer
none_left : (id : MonitorId) (cs : List ℕ) (bs : List (List ℕ)) {S T : Type 0} {P : S → Type 0} {Q : T → Type 0}
    → ((u : S) × ((length cs ≡ 0) × P u)) ⊎ ((u : T) × ((bs ≡ []) × Q u)) → replies_to id cs bs ≡ []
unfolding replies_to
none_left id [] bs h = refl
none_left id (c ∷ cs) bs (inl h) = absurd (omega arith)
none_left id (c ∷ cs) bs (inr h) = replies_end id (c ∷ cs) bs h.1.0

pub loop-code-init : goal.loop-code-init
loop-code-init c =
    rw (c.into_iter-code-iterator.ensures.into_iter_gives, c.zip-code-items.ensures.first, c.zip-code-items.ensures.second, c.iter.ensures.rest)
    (sym (joined_ack _))

pub returns-in_err-next : goal.returns-in_err-next
returns-in_err-next c =
    let p = err_from_is_err_and c.from_residual.result c.from_residual.ensures.1 in
    let steps = c.in-Some.ensures.steps in
    p.1 ∙ sym (c.loop-code.invariant ∙ wrong_next c.args.id c.loop-code.reply steps.0 steps.1 c.said_to.ensures c.in_err-next.was)

pub loop-code-preserved-then-eq : goal.loop-code-preserved-then-eq
loop-code-preserved-then-eq c =
    let steps = c.in-Some.ensures.steps in
    let ack : c.loop-code.reply ≡ Reply.Ack = search rules in
    c.loop-code.invariant ∙ reply_next c.args.id c.loop-code.reply steps.0 steps.1 c.said_to.ensures c.in_ok-next.was ∙ rw (after_ack c.loop-code.reply c.in_ok-next.next ack)

pub loop-code-preserved : goal.loop-code-preserved
loop-code-preserved c =
    let steps = c.in-Some.ensures.steps in
    let other : c.loop-code.reply ≡ Reply.Ack → ⊥ = search rules in
    c.loop-code.invariant ∙ reply_next c.args.id c.loop-code.reply steps.0 steps.1 c.said_to.ensures c.in_ok-next.was ∙ rw (after_other c.loop-code.reply c.in_ok-next.next other)

pub returns : goal.returns
returns c = sym (c.loop-code.invariant ∙ rw (none_left c.args.id _ _ c.in-None.ensures.steps) (alone (Ok c.loop-code.reply)))
