-- The entry of a row's field among some values. Assumes nothing.
use Prim.Native.Nat.{ℕ}
use mathlib.Core.List.{List}
use Rattle.settings.specs.Settings.{set_code, values_of}
use Rattle.image_read.specs.Entries.{Entry}

abbrev pub entry_of : ℕ → List ℕ → Entry
entry_of row values = record { code = set_code row; values = values_of row values }
