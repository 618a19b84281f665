use mathlib.Core.Path.{◌≡◌, sym, ap, ◌∙◌}
use Rattle.std.specs.Prelude.{None, Some, length}
use Rattle.std.specs.Option.{option_map}
use Rattle.bursts.specs.Bursts.{bursts_in}
use Rattle.bursts.specs.Left.{bursts_left, whole_bursts}
use Rattle.qx.specs.Asked.{codes_for}
use Rattle.qx.proofs.Replies.{cut_of, whole_of, heard-cut, heard-other, heard-each}
use Rattle.qx.proofs.hearing.hear_all.Goals as goal

pub returns-in_err-answers : goal.returns-in_err-answers
returns-in_err-answers c =
    let a = c.args in
    let none : whole_bursts a.list.now ≡ None = sym c.of.ensures ∙ ap (option_map bursts_left) c.in_err-answers.was in
    c.from_residual.ensures ∙ sym (heard-cut a.id a.asked a.list.now (cut_of a.list.now none))

pub returns-then-len-codes : goal.returns-then-len-codes
returns-then-len-codes c =
    let a = c.args in
    let whole = whole_of a.list.now (sym c.of.ensures ∙ ap (option_map bursts_left) c.in_ok-answers.was) in
    sym (heard-other a.id a.asked a.list.now whole.0 (λ e. c.if-len-codes.true (c.len.ensures ∙ sym (ap length whole.1) ∙ e ∙ sym (ap length c.codes_of-codes.ensures))))

pub returns : goal.returns
returns c =
    let a = c.args in
    let whole = whole_of a.list.now (sym c.of.ensures ∙ ap (option_map bursts_left) c.in_ok-answers.was) in
    let many : length (bursts_in a.list.now).whole ≡ length (codes_for (Some a.asked)) = ap length whole.1 ∙ sym c.len.ensures ∙ c.if-len-codes.false ∙ ap length c.codes_of-codes.ensures in
    rw (c.hear_each.ensures, c.codes_of-codes.ensures, ← whole.1) (sym (heard-each a.id a.asked a.list.now whole.0 many))
