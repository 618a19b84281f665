-- Any receiver of one line: how it goes on with a byte, how it reads what it has at a mark, how it is fresh. 01, "Packet and burst"; 02, A14.
use Rattle.std.specs.Prelude.{ℕ, ◌≡◌, List}
use mathlib.Core.List.{foldl}
use Rattle.packet.specs.declared.Edition.{Edition}
use Rattle.packet.specs.Reading.{Reading, reading_of}
use Rattle.panels.specs.declared.Table.{Table}
use Rattle.answers.specs.declared.Played.{Played}
use Rattle.answers.specs.Played.{answered_on}
use Rattle.line.specs.declared.Heard.{Heard}

-- what was answered, and the receiver behind the mark
abbrev pub heard_of : {R : Type 0} → R → Played → Heard R
heard_of r p = record { receiver = r; table = p.table; reply = p.reply; damage = p.damage }

-- A burst of any length, byte after byte and then the mark, is answered on a 2.01 line by what is read of all its bytes, and the line
-- is open again.
pub record AnswersAll {R : Type 0} (next : R → ℕ → R) (reading : R → Reading) (fresh : R → R) (is_open : R → Type 0) : Type 0 where
  pub answers : (r : R) (burst : List ℕ) (t : Table) → is_open r → answered_on t (reading (foldl next r burst)) ≡ answered_on t (reading_of Edition.Sicp201 burst)
  pub opens : (r : R) (burst : List ℕ) → is_open r → is_open (fresh (foldl next r burst))
