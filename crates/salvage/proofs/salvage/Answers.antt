-- What was kept is well-formed. Assumes nothing.
use Rattle.std.proofs.Common.{sym, ◌∙◌}
use Rattle.image_salvage.proofs.Sound.{table_formed}
use Rattle.salvage.proofs.salvage.Goals as goal

pub keep-requires : goal.keep-requires
keep-requires g c = table_formed _ (sym c.salvage.ensures.value ∙ c.in-Ok.is)
