-- How the code judges one panel after the other.
use Rattle.std.specs.Prelude.{ℕ, Bool, false, List, [], ◌∷◌, get_or}
use Rattle.settings.specs.Settings.{tiling_row}
use Rattle.tiling.specs.Kinds.{in_wall}
use Rattle.panels.specs.declared.Panel.{Panel}
use Rattle.panels.specs.Wall.{model_of}
use Rattle.answers.specs.declared.Order.{Order}
use Rattle.answers.specs.Judged.{Command, get_of, set_of, unavailable, held_then}
use Rattle.answers.specs.Turn.{allowed_by}

-- what a command asks of every panel: a report of a row, values to be stored in a row, or nothing
abbrev pub order_of : Command → Order
order_of (get_of row) = Order.Report row
order_of (set_of row values) = Order.Store row
order_of unavailable = Order.NotAvailable

-- for each profile, by its number, whether its ranges allow what an order stores
abbrev pub allowed_in : Order → List ℕ → List Bool
allowed_in (Order.Store row) values = allowed_by row values
allowed_in (Order.Report row) values = false ∷ false ∷ []
allowed_in Order.NotAvailable values = false ∷ false ∷ []

-- whether the wall that a panel would then stand in is one of its kind's, and has the position
abbrev pub stands_then : List ℕ → Panel → Bool
stands_then values p = let held = held_then tiling_row values p in in_wall (model_of p).kind (get_or held 2 0) (get_or held 3 0)
