-- A row that is seen. Assumes nothing.
use Prim.Native.Nat.{ℕ}
use mathlib.Core.Bool.{Bool, true}
use mathlib.Core.List.{List}
use lib.ListN.{set}

abbrev pub seen_with : ℕ → List Bool → List Bool
seen_with row seen = set seen row true
