use mathlib.Core.Path.{refl}
use mathlib.Core.List.{flatten}
use Rattle.settings.specs.Settings.{settings, allowed_by_row, fresh_values}
use Rattle.settings.specs.Private.Numbers.{allowed_values, paper_table}
use Rattle.settings.proofs.numbers.the_table.Goals as goal

pub returns : goal.returns
unfolding settings allowed_by_row allowed_values fresh_values paper_table flatten
returns c = refl
