use mathlib.Core.Path.{◌≡◌, sym, ap, ◌∙◌}
use mathlib.Core.List.{List, [], ◌∷◌}
use Prim.Native.Nat.{ℕ, ◌+◌, ◌≤◌}
use native.Mathlib.Omega.{arith}
use borrow.Author.Tests.{le-leb, lt-leb}
use lib.ListN.{length, take, length-take}
use lib.Seq.{take_all}
use Rattle.packet.specs.Packet.{group_id, packet_of, shortest, most_data, longest}
use Rattle.lists.specs.Lists.{laid_over}
use Rattle.packet.specs.declared.Edition.{Edition}
use Rattle.packet.proofs.EachEdition.{head_few}
use Rattle.packet.proofs.Packets.{packet_length}
use Rattle.answers.specs.declared.Answer.{Answer}
use Rattle.answers.specs.declared.Reply.{Reply}
use Rattle.std.specs.Prelude.{Some}
use Rattle.answers.specs.Reply.{sent_by, sent_bytes, sent_of, output_of, most_reported}
use borrow.Author.Rules.{rules}
use Rattle.answers.proofs.answering.write_answer.Goals as goal

-- The data that the answer has is sent. Assumes nothing.
by_answer : (edition : Edition) (r : Reply) (a : Answer) → r.answer ≡ a → sent_bytes edition r ≡ sent_by edition a r.id (take r.count r.bytes)
unfolding sent_bytes
by_answer edition r a e = ap (λ (x : Answer). sent_by edition x r.id (take r.count r.bytes)) e

-- data that is sent is the answer
answered : (edition : Edition) (out : List ℕ) (r : Reply) (d : List ℕ) → longest ≤ length out → length d ≤ most_data edition
    → sent_bytes edition r ≡ packet_of edition r.id (group_id 0) d
    → (Some (length d + shortest edition) ≡ sent_of edition out r) × (laid_over (packet_of edition r.id (group_id 0) d) out ≡ output_of edition out r)
unfolding sent_of output_of
answered edition out r d h m e =
    (simp (le-leb _ _ h, e, packet_length edition r.id (group_id 0) d m), simp (le-leb _ _ h, e))

pub returns-then-out-lt-LONGEST-clause-value : goal.returns-then-out-lt-LONGEST-clause-value
unfolding sent_of output_of
returns-then-out-lt-LONGEST-clause-value c = simp (lt-leb _ _ c.if-out-lt-LONGEST.true)

pub returns-in-Silence-clause-value : goal.returns-in-Silence-clause-value
unfolding sent_of output_of laid_over
returns-in-Silence-clause-value c =
    let a = c.args in
    let room = le-leb longest (length a.out.now) (omega arith) in
    let e = by_answer a.edition a.reply _ c.in-Silence.is in
    simp (room, e)

pub returns-in-Silence-clause-out_after : goal.returns-in-Silence-clause-out_after
unfolding sent_of output_of laid_over
returns-in-Silence-clause-out_after c =
    let a = c.args in
    let room = le-leb longest (length a.out.now) (omega arith) in
    let e = by_answer a.edition a.reply _ c.in-Silence.is in
    simp (room, e)

pub returns-in-Word-clause-value : goal.returns-in-Word-clause-value
returns-in-Word-clause-value c =
    let a = c.args in
    let byte = c.into in
    let e = by_answer a.edition a.reply _ c.in-Word.is ∙ ap (λ (b : ℕ). packet_of a.edition a.reply.id (group_id 0) (0 ∷ b ∷ [])) (sym byte.ensures) in
    let r = answered a.edition a.out.now a.reply (0 ∷ byte.result ∷ []) (omega arith) (omega (arith, head_few a.edition)) e in
    c.send.ensures.value ∙ r.0

pub returns-in-Word-clause-out_after : goal.returns-in-Word-clause-out_after
returns-in-Word-clause-out_after c =
    let a = c.args in
    let byte = c.into in
    let e = by_answer a.edition a.reply _ c.in-Word.is ∙ ap (λ (b : ℕ). packet_of a.edition a.reply.id (group_id 0) (0 ∷ b ∷ [])) (sym byte.ensures) in
    let r = answered a.edition a.out.now a.reply (0 ∷ byte.result ∷ []) (omega arith) (omega (arith, head_few a.edition)) e in
    c.send.ensures.out_after ∙ r.1

pub returns-then-out-lt-LONGEST-clause-out_after : goal.returns-then-out-lt-LONGEST-clause-out_after
unfolding sent_of output_of
returns-then-out-lt-LONGEST-clause-out_after c = simp (lt-leb _ _ c.if-out-lt-LONGEST.true)

pub returns-then-n-gt-MOST_REPORTED-clause-value : goal.returns-then-n-gt-MOST_REPORTED-clause-value
returns-then-n-gt-MOST_REPORTED-clause-value c =
    let a = c.args in
    let n : length a.reply.bytes ≡ most_reported = search rules in
    let e = by_answer a.edition a.reply _ c.in-Report.is ∙ ap (packet_of a.edition a.reply.id (group_id 0)) (take_all a.reply.count a.reply.bytes (omega arith)) in
    let r = answered a.edition a.out.now a.reply a.reply.bytes (omega arith) (omega (arith, head_few a.edition)) e in
    c.send-then-n-gt-MOST_REPORTED.ensures.value ∙ r.0

pub returns-then-n-gt-MOST_REPORTED-clause-out_after : goal.returns-then-n-gt-MOST_REPORTED-clause-out_after
returns-then-n-gt-MOST_REPORTED-clause-out_after c =
    let a = c.args in
    let n : length a.reply.bytes ≡ most_reported = search rules in
    let e = by_answer a.edition a.reply _ c.in-Report.is ∙ ap (packet_of a.edition a.reply.id (group_id 0)) (take_all a.reply.count a.reply.bytes (omega arith)) in
    let r = answered a.edition a.out.now a.reply a.reply.bytes (omega arith) (omega (arith, head_few a.edition)) e in
    c.send-then-n-gt-MOST_REPORTED.ensures.out_after ∙ r.1

pub returns-else-n-gt-MOST_REPORTED-clause-value : goal.returns-else-n-gt-MOST_REPORTED-clause-value
returns-else-n-gt-MOST_REPORTED-clause-value c =
    let a = c.args in
    let n : length a.reply.bytes ≡ most_reported = search rules in
    let d = take a.reply.count a.reply.bytes in
    let r = answered a.edition a.out.now a.reply d (omega arith) (simp length-take (omega (arith, head_few a.edition))) (by_answer a.edition a.reply _ c.in-Report.is) in
    c.send-in-Report.ensures.value ∙ r.0

pub returns-else-n-gt-MOST_REPORTED-clause-out_after : goal.returns-else-n-gt-MOST_REPORTED-clause-out_after
returns-else-n-gt-MOST_REPORTED-clause-out_after c =
    let a = c.args in
    let n : length a.reply.bytes ≡ most_reported = search rules in
    let d = take a.reply.count a.reply.bytes in
    let r = answered a.edition a.out.now a.reply d (omega arith) (simp length-take (omega (arith, head_few a.edition))) (by_answer a.edition a.reply _ c.in-Report.is) in
    c.send-in-Report.ensures.out_after ∙ r.1
