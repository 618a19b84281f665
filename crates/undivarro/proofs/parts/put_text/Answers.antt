-- The bytes are copied to the front. Assumes nothing.
use Rattle.lists.specs.Lists.{laid_over}
use Rattle.undivarro.proofs.parts.put_text.Goals as goal

pub returns : goal.returns
unfolding laid_over
returns c = c.copy.ensures.laid
