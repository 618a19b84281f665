-- A row by its code: a setting on the line, a field in an image. 01, "The settings"; 02, A6.
use Rattle.std.specs.Prelude.{ℕ, suc, cond, Option, Some, None, List, [], ◌∷◌, eqb, drop}
use Rattle.settings.specs.Settings.{Setting, settings, set_code, kind_row}
use Rattle.codes.specs.declared.Code.{Code}

-- the first of some rows, counted from k, that has the code c, and which of its two codes that is
unfoldable pub found_from : ℕ → ℕ → List Setting → Option Code
found_from c k [] = None
found_from c k (s ∷ rest) = cond (eqb s.set c) (Some (Code.Set k)) (cond (eqb s.get c) (Some (Code.Get k)) (found_from c (suc k) rest))

-- on the line: no command sets or gets the kind
abbrev pub found_by : ℕ → Option Code
found_by c = found_from c (suc kind_row) (drop (suc kind_row) settings)

-- in an image: the code of a setting's field is its set code, and the kind has one too
unfoldable pub field_by : ℕ → Option Code
field_by c = cond (eqb c (set_code kind_row)) (Some (Code.Set kind_row)) (found_by c)
