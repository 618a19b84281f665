use Rattle.lists.specs.Lists.{same}
use Rattle.qx.specs.Asked.{is_carried}
use Rattle.qx.proofs.asking.is_carried.Goals as goal

pub returns : goal.returns
unfolding is_carried same
returns c = c.eq.ensures
