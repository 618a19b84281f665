-- A whole burst is its own front. Assumes nothing.
use mathlib.Core.Path.{◌∙◌}
use Rattle.std.proofs.Common.{rules}
use Rattle.xor.specs.Xor.{xor_all}
use Rattle.packet.proofs.Fronts.{whole_reading}
use Rattle.packet.proofs.by_front.read.Goals as goal

pub returns : goal.returns
returns c = c.read_with.ensures (xor_all c.args.burst.now) (search rules) ∙ whole_reading c.args.edition c.args.burst.now
