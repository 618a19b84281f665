-- The panels that a burst addresses. 01, "Who is addressed"; 02, A10: a damaged burst addresses none.
use Rattle.std.specs.Prelude.{ℕ, ◌<◌, Bool, false, ◌&&◌, ◌≡◌, List, length, get_or}
use Rattle.packet.specs.declared.Edition.{Edition}
use Rattle.packet.specs.declared.Verdict.{Verdict}
use Rattle.packet.specs.Reading.{Reading, reading_of}
use Rattle.panels.specs.declared.Panel.{Panel}
use Rattle.panels.specs.Wall.{Wall, blank}
use Rattle.panels.specs.Addressed.{reaches}

abbrev pub addressed_by : Verdict → Panel → Bool
addressed_by Verdict.Empty p = false
addressed_by (Verdict.Damaged damage) p = false
addressed_by (Verdict.Intact i g n) p = reaches i g p

-- it is addressed by both
abbrev pub shared : Reading → Reading → Panel → Bool
shared r s p = addressed_by r.verdict p && addressed_by s.verdict p

-- two bursts that have no panel of the wall in common
abbrev pub Apart : Edition → Wall → List ℕ → List ℕ → Type 0
Apart edition w b c = (k : ℕ) → k < length w → shared (reading_of edition b) (reading_of edition c) (get_or w k blank) ≡ false
