use mathlib.Core.Path.{◌≡◌, sym, ap, ◌∙◌}
use mathlib.Core.List.{List}
use Prim.Native.Nat.{ℕ, ◌≤◌}
use native.Mathlib.Omega.{arith}
use borrow.Author.Tests.{le-leb}
use lib.ListN.{length}
use Rattle.packet.specs.declared.Edition.{Edition}
use Rattle.packet.specs.Packet.{longest}
use Rattle.lists.specs.Lists.{laid_over}
use Rattle.answers.specs.declared.Reply.{Reply}
use Rattle.std.specs.Prelude.{Option, Some}
use Rattle.answers.specs.Reply.{sent_bytes, sent_of, output_of}
use Rattle.answers.proofs.Lengths.{bytes_sent, sent-few}
use borrow.Author.Rules.{rules}
use Rattle.answers.proofs.answering.put_answer.Goals as goal

-- There is room, so the answer is written. Assumes nothing.
fits : (edition : Edition) (out : List ℕ) (r : Reply) → longest ≤ length out
    → (sent_of edition out r ≡ Some (length (sent_bytes edition r))) × (output_of edition out r ≡ laid_over (sent_bytes edition r) out)
unfolding sent_of output_of
fits edition out r h = (simp (le-leb _ _ h), simp (le-leb _ _ h))

pub returns-in-Some-clause-value : goal.returns-in-Some-clause-value
returns-in-Some-clause-value c =
    let sent : (s : Option ℕ) → c.write_answer-sent.result ≡ s → let a = c.args in ((bytes_sent s ≡ length (sent_bytes a.edition a.reply)) × (bytes_sent s ≤ longest)) × (c.write_answer-sent.new.out ≡ laid_over (sent_bytes a.edition a.reply) a.out.now) = λ s e. let f = fits _ _ c.args.reply c.requires in let n = ap bytes_sent (sym e ∙ c.write_answer-sent.ensures.value ∙ f.0) in ((n, omega (arith, n, sent-few c.args.edition c.args.reply (search rules))), c.write_answer-sent.ensures.out_after ∙ f.1) in
    (sent _ c.in-Some.is).0

pub returns-in-Some-clause-out_after : goal.returns-in-Some-clause-out_after
returns-in-Some-clause-out_after c =
    let sent : (s : Option ℕ) → c.write_answer-sent.result ≡ s → let a = c.args in ((bytes_sent s ≡ length (sent_bytes a.edition a.reply)) × (bytes_sent s ≤ longest)) × (c.write_answer-sent.new.out ≡ laid_over (sent_bytes a.edition a.reply) a.out.now) = λ s e. let f = fits _ _ c.args.reply c.requires in let n = ap bytes_sent (sym e ∙ c.write_answer-sent.ensures.value ∙ f.0) in ((n, omega (arith, n, sent-few c.args.edition c.args.reply (search rules))), c.write_answer-sent.ensures.out_after ∙ f.1) in
    (sent _ c.in-Some.is).1

pub returns-in-None-clause-value : goal.returns-in-None-clause-value
returns-in-None-clause-value c =
    let sent : (s : Option ℕ) → c.write_answer-sent.result ≡ s → let a = c.args in ((bytes_sent s ≡ length (sent_bytes a.edition a.reply)) × (bytes_sent s ≤ longest)) × (c.write_answer-sent.new.out ≡ laid_over (sent_bytes a.edition a.reply) a.out.now) = λ s e. let f = fits _ _ c.args.reply c.requires in let n = ap bytes_sent (sym e ∙ c.write_answer-sent.ensures.value ∙ f.0) in ((n, omega (arith, n, sent-few c.args.edition c.args.reply (search rules))), c.write_answer-sent.ensures.out_after ∙ f.1) in
    (sent _ c.in-None.is).0

pub returns-in-None-clause-out_after : goal.returns-in-None-clause-out_after
returns-in-None-clause-out_after c =
    let sent : (s : Option ℕ) → c.write_answer-sent.result ≡ s → let a = c.args in ((bytes_sent s ≡ length (sent_bytes a.edition a.reply)) × (bytes_sent s ≤ longest)) × (c.write_answer-sent.new.out ≡ laid_over (sent_bytes a.edition a.reply) a.out.now) = λ s e. let f = fits _ _ c.args.reply c.requires in let n = ap bytes_sent (sym e ∙ c.write_answer-sent.ensures.value ∙ f.0) in ((n, omega (arith, n, sent-few c.args.edition c.args.reply (search rules))), c.write_answer-sent.ensures.out_after ∙ f.1) in
    (sent _ c.in-None.is).1
