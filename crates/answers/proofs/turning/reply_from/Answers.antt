use mathlib.Core.Path.{◌≡◌, sym, ap, subst, ◌∙◌}
use lib.ListN.{drop}
use Rattle.packet.specs.declared.MonitorId.{MonitorId}
use Rattle.answers.specs.declared.Order.{Order}
use Rattle.answers.specs.Judged.{Judged, set_of, command, reply_by}
use Rattle.answers.proofs.Orders.{OrderIs, order_right, judge-get, judge-set, judge_not}
use Rattle.answers.proofs.turning.reply_from.Goals as goal

by_judge : (i : MonitorId) {j k : Judged} → j ≡ k → reply_by i k ≡ reply_by i j
by_judge i e = ap (reply_by i) (sym e)

pub returns-then-takes : goal.returns-then-takes
returns-then-takes c =
    let told : (o : Order) → c.args.order.now ≡ o → OrderIs c.args.d.now o = λ o e. subst (OrderIs _) (sym c.requires.0 ∙ e) (order_right _) in
    let store_is : command c.args.d.now ≡ set_of c.in-Store.row (drop 1 c.args.d.now) = (told _ c.in-Store.is).2 in
    c.word_from.ensures ∙ by_judge _ (judge-set _ _ _ _ store_is (rw c.index.ensures.number at (sym c.takes.ensures ∙ c.if-takes.true)))

pub returns-in-Report : goal.returns-in-Report
returns-in-Report c =
    let told : (o : Order) → c.args.order.now ≡ o → OrderIs c.args.d.now o = λ o e. subst (OrderIs _) (sym c.requires.0 ∙ e) (order_right _) in
    c.report_of.ensures ∙ by_judge _ (judge-get _ _ _ (told _ c.in-Report.is).1)

pub returns-else-takes : goal.returns-else-takes
returns-else-takes c =
    let told : (o : Order) → c.args.order.now ≡ o → OrderIs c.args.d.now o = λ o e. subst (OrderIs _) (sym c.requires.0 ∙ e) (order_right _) in
    let store_is : command c.args.d.now ≡ set_of c.in-Store.row (drop 1 c.args.d.now) = (told _ c.in-Store.is).2 in
    c.word_from-in-Store.ensures ∙ by_judge _ (judge_not _ _ _ _ store_is (rw c.index.ensures.number at (sym c.takes.ensures ∙ c.if-takes.false)))

pub returns-in-NotAvailable : goal.returns-in-NotAvailable
returns-in-NotAvailable c =
    let told : (o : Order) → c.args.order.now ≡ o → OrderIs c.args.d.now o = λ o e. subst (OrderIs _) (sym c.requires.0 ∙ e) (order_right _) in
    c.word_from-in-NotAvailable.ensures ∙ by_judge _ (told _ c.in-NotAvailable.is c.args.p)
