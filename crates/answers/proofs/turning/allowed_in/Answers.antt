use Rattle.answers.proofs.Orders.{order_told}
use Rattle.answers.proofs.turning.allowed_in.Goals as goal

-- An order that stores has a row, and a set code. Assumes nothing.
pub allowed_by-requires : goal.allowed_by-requires
allowed_by-requires c = (order_told c.args.d.now _ c.requires c.in-Store.is).1
