use Rattle.settings.specs.Settings.{settings}
use Rattle.image_write.proofs.fields_size.Goals as goal

pub returns-in-One : goal.returns-in-One
unfolding settings
returns-in-One c = rw c.in-One.is
