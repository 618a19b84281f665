-- What goes out is shown. Assumes nothing.
use Rattle.std.proofs.Common.{ℕ, List, sym, ap, ◌∙◌, take}
use Rattle.sample.specs.Shown.{shown_count, shown_over}
use Rattle.sample.proofs.Sent.{fits, front_is}
use Rattle.sample.proofs.shown_answer.Goals as goal

pub returns-in_default-clause-value : goal.returns-in_default-clause-value
returns-in_default-clause-value c = let bytes = fits c.args.edition c.args.reply in cc

pub returns-in_default-clause-out_after : goal.returns-in_default-clause-out_after
returns-in_default-clause-out_after c = let bytes = fits c.args.edition c.args.reply in cc

pub returns-clause-value : goal.returns-clause-value
returns-clause-value c =
    let a = c.args in
    let n = c.in-Some.n in
    let bytes =
    c.front.ensures ∙ ap (take n) c.write_answer-sent.ensures.out_after
    ∙ front_is a.edition a.reply n (sym c.write_answer-sent.ensures.value ∙ c.in-Some.is) in
    c.shown.ensures.value ∙ ap (λ (b : List ℕ). shown_count b a.out.now) bytes

pub returns-clause-out_after : goal.returns-clause-out_after
returns-clause-out_after c =
    let a = c.args in
    let n = c.in-Some.n in
    let bytes =
    c.front.ensures ∙ ap (take n) c.write_answer-sent.ensures.out_after
    ∙ front_is a.edition a.reply n (sym c.write_answer-sent.ensures.value ∙ c.in-Some.is) in
    c.shown.ensures.out_after ∙ ap (λ (b : List ℕ). shown_over b a.out.now) bytes
