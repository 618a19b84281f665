-- The play program and the repeater. 01, "The play program"; 02, A14. No contract can say which bursts standard input has.
use Rattle.std.specs.Prelude.{ℕ, ◌≡◌}
use mathlib.Core.List.{List, foldl}
use Rattle.packet.specs.declared.Edition.{Edition}
use Rattle.packet.specs.Reading.{reading_of}
use Rattle.panels.specs.declared.Table.{Table}
use Rattle.panels.specs.Wall.{table_of}
use Rattle.answers.specs.Played.{answered_on}
use Rattle.answers.specs.Sample.{two_panels}

-- the table after a burst on a 2.01 line
abbrev pub table_after : Table → List ℕ → Table
table_after t burst = (answered_on t (reading_of Edition.Sicp201 burst)).table

-- this table is what some bursts, one after the other, leave of the sample wall
abbrev pub Ends : Table → Type 0
Ends t = (bursts : List (List ℕ)) × (t ≡ foldl table_after (table_of two_panels) bursts)
