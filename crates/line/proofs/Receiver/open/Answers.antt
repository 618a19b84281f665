use mathlib.Core.Path.{refl}
use Rattle.line.specs.Receiver.{receiver_of}
use Rattle.line.proofs.Receiver.open.Goals as goal

pub returns : goal.returns
unfolding receiver_of
returns c = refl
