use mathlib.Core.Path.{refl}
use Rattle.xor.specs.Xor.{xor_all}
use Rattle.small_receiver.specs.Small.{keeping}
use Rattle.small_receiver.proofs.SmallReceiver.open.Goals as goal

pub returns : goal.returns
unfolding keeping xor_all
returns c = refl
