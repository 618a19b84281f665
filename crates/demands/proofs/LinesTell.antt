-- A line says which record and which fault it tells. Assumes nothing.
use native.Mathlib.Omega.{arith}
use Rattle.image_faults.specs.Lines.{line_of}
use Rattle.demands.specs.Salvage.{LinesTell}
use Rattle.std.proofs.lemmas.Grind.{common_steps}

pub lines_tell : LinesTell
unfolding line_of
lines_tell k j f g hk hj cf cg e = grind (arith, common_steps)
