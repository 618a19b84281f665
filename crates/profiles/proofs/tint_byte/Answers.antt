use Rattle.profiles.proofs.Tints.{below, not_below}
use Rattle.profiles.proofs.tint_byte.Goals as goal

pub returns-then-tint-lt0 : goal.returns-then-tint-lt0
returns-then-tint-lt0 c = (below _ c.ranges.tint c.if-tint-lt0.true).byte

pub returns : goal.returns
returns c = (not_below _ c.ranges.tint c.if-tint-lt0.false).byte
