-- The text that a line has so far, and that zeros are behind it.
use Rattle.std.specs.Prelude.{ℕ, ◌≡◌, List, take}
use Rattle.image_faults.specs.declared.Line.{Line}
use Rattle.image_faults.specs.Lines.{padded}

abbrev pub text_in : Line → List ℕ
text_in l = take l.count l.bytes

abbrev pub IsPadded : Line → Type 0
IsPadded l = l ≡ padded (text_in l)
