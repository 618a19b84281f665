use Rattle.std.proofs.Common.{List, Bool, Some, sym, ap, ◌∙◌, drop}
use Rattle.answers.specs.declared.Order.{Order}
use Rattle.answers.specs.Private.Orders.{allowed_in}
use Rattle.answers.specs.Turn.{change_of}
use Rattle.answers.proofs.Orders.{order_told}
use Rattle.answers.proofs.turning.change_of.Goals as goal

-- An order that stores is a set's. Assumes nothing.
pub returns : goal.returns
unfolding change_of
returns c =
    let o = order_told c.args.d.now _ c.requires.0 c.in-Store.is in
    let allowed = c.requires.1 ∙ ap (λ (x : Order). allowed_in x (drop 1 c.args.d.now)) c.in-Store.is in
    rw (o.2, sym c.span_of.ensures ∙ c.in_ok-span.was)
    (ap (λ (l : List Bool). Some (record { names = c.args.names; row = c.in-Store.row; allowed = l; span = c.in_ok-span.span })) allowed)
