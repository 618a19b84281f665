use Rattle.lists.proofs.Laid.{laid_copy}
use Rattle.qx.proofs.message.put.Goals as goal

pub returns : goal.returns
returns c =
    let a = c.args in
    rw c.copy.ensures.laid (laid_copy a.at a.bytes.now a.out.now c.requires)
