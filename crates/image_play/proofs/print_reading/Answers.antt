-- The table that was read is well-formed. Assumes nothing.
use Rattle.std.proofs.Common.{◌≡◌, sym, ◌∙◌, List, ℕ}
use Rattle.std.specs.Prelude.{Result, Ok}
use Rattle.std.proofs.lemmas.Result.{IfOk-at_ok}
use Rattle.panels.specs.declared.Table.{Table}
use Rattle.panels.specs.WellFormed.{WellFormed}
use Rattle.refusals.specs.declared.Refusal.{Refusal}
use Rattle.image_read.specs.Read.{in_table, read_of}
use Rattle.image_read.proofs.Sound.{read_formed}
use Rattle.image_play.proofs.print_reading.Goals as goal

formed : (bytes : List ℕ) {r : Result Table Refusal} {t : Table} → r ≡ in_table (read_of bytes) → r ≡ Ok t → WellFormed t
formed bytes e is = IfOk-at_ok WellFormed (sym e ∙ is) (read_formed bytes)

pub print_image-requires : goal.print_image-requires
print_image-requires g c = formed _ c.read_image.ensures c.in-Ok.is

pub print_image-requires-in-Ok : goal.print_image-requires-in-Ok
print_image-requires-in-Ok g c = formed _ c.read_image.ensures c.in-Ok.is
