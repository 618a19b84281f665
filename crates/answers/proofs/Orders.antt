-- What an order says of the data that it was made of. Assumes nothing.
use mathlib.Core.Path.{◌≡◌, refl, sym, ap, subst, ◌∙◌}
use mathlib.Core.Bool.{true, false}
use mathlib.Core.List.{List, [], ◌∷◌, flatten}
use Prim.Native.Nat.{ℕ, ◌+◌, ◌<◌}
use native.Mathlib.Omega.{arith}
use lib.Dec.{eqb}
use lib.ListN.{length, get_or, drop, length-drop}
use Rattle.lists.specs.Lists.{same}
use Rattle.lists.proofs.Both.{both}
use Rattle.lists.proofs.Same.{same_first}
use Rattle.std.proofs.Common.{Option, Some, None}
use Rattle.codes.specs.declared.Code.{Code}
use Rattle.settings.specs.Settings.{settings, get_code, byte_count, place, allowed_by_row, values_of, row_count, kind_row, power_row, off}
use Rattle.codes.specs.Found.{found_by}
use Rattle.models.specs.Models.{allowed_for}
use Rattle.codes.proofs.Laws.{IsFound, found_right}
use Rattle.models.proofs.Laws.{allowed_many}
use Rattle.models.proofs.Filled.{length-filled}
use Rattle.panels.specs.declared.Panel.{Panel}
use Rattle.panels.specs.Wall.{model_of}
use Rattle.answers.specs.declared.Order.{Order}
use Rattle.answers.specs.Judged.{Command, get_of, set_of, unavailable, command, command_by, not_available, reported, taken, stored, held_then, takes, judge}
use Rattle.answers.specs.Private.Orders.{order_of}

abbrev pub OrderIs : List ℕ → Order → Type 0
OrderIs d (Order.Report row) = (row < row_count) × (command d ≡ get_of row)
OrderIs d (Order.Store row) = (row < row_count) × (0 < length d) × (command d ≡ set_of row (drop 1 d))
OrderIs d Order.NotAvailable = (p : Panel) → judge (command d) p ≡ not_available

order_found : (code : ℕ) (vs : List ℕ) (f : Option Code) → IsFound code f → command (code ∷ vs) ≡ command_by f vs
    → OrderIs (code ∷ vs) (order_of (command_by f vs))
order_found code vs (Some (Code.Set row)) (h, _, _) e = (h, omega arith, e)
order_found code [] (Some (Code.Get row)) (h, _, _) e = (h, e)
order_found code (v ∷ vs) (Some (Code.Get row)) h e = λ p. unfold judge in rw e
order_found code vs None h e = λ p. unfold judge in rw e

pub order_right : (d : List ℕ) → OrderIs d (order_of (command d))
unfolding command
order_right [] = λ p. unfold judge in refl
order_right (code ∷ vs) = order_found code vs (found_by code) (found_right code) refl

-- an order that is known
pub order_told : (d : List ℕ) {given : Order} (o : Order) → given ≡ order_of (command d) → given ≡ o → OrderIs d o
order_told d o e is = subst (OrderIs d) (sym e ∙ is) (order_right d)

pub judge-get : (c : Command) (row : ℕ) (p : Panel) → c ≡ get_of row → judge c p ≡ reported (get_code row ∷ values_of row p.values)
unfolding judge
judge-get c row p e = ap (λ (x : Command). judge x p) e

-- a panel is off by one value
pub is_off : (values : List ℕ) → same (values_of power_row values) off ≡ eqb (get_or values (place power_row) 0) 1
unfolding settings allowed_by_row flatten same
is_off [] = refl
is_off (k ∷ []) = refl
is_off (k ∷ v ∷ values) = same_first (v ∷ values) 1 (omega arith)

-- a get or a set on the line is of a setting, and not of the kind
abbrev pub OnLine : Command → Type 0
OnLine (get_of row) = (kind_row < row) × (row < row_count)
OnLine (set_of row vs) = (kind_row < row) × (row < row_count)
OnLine unavailable = Unit {0}

pub on_line : (d : List ℕ) → OnLine (command d)
unfolding command
on_line [] = tt
on_line (code ∷ vs) = go (found_by code) vs (found_right code)
  where
    go : (f : Option Code) (vs : List ℕ) → IsFound code f → OnLine (command_by f vs)
    go (Some (Code.Set row)) vs (h, _, s) = (s, h)
    go (Some (Code.Get row)) [] (h, _, s) = (s, h)
    go (Some (Code.Get row)) (v ∷ vs) f = tt
    go None vs f = tt

-- what a panel takes its own profile and kind allow it to hold,
pub taken-allowed : (row : ℕ) (vs : List ℕ) (p : Panel) → takes row vs p ≡ true → allowed_for (model_of p) row (held_then row vs p) ≡ true
unfolding takes
taken-allowed row vs p t = (both (allowed_for (model_of p) row (held_then row vs p)) _ t).0

-- and it is as many values as the row has
pub taken_many : (row : ℕ) (d : List ℕ) (p : Panel) → 0 < length d → takes row (drop 1 d) p ≡ true → length d ≡ byte_count row + 1
taken_many row d p h t =
    let n = allowed_many (model_of p) row (held_then row (drop 1 d) p) (taken-allowed row (drop 1 d) p t) in
    omega (arith, rw (length-filled, length-drop) at n)

-- a set that the panel takes, and one that it does not
module _ (c : Command) (row : ℕ) (vs : List ℕ) (p : Panel) (e : c ≡ set_of row vs) where
  pub judge-set : takes row vs p ≡ true → judge c p ≡ taken (stored row (held_then row vs p) p)
  unfolding judge
  judge-set t = rw (e, t)

  pub judge_not : takes row vs p ≡ false → judge c p ≡ not_available
  unfolding judge
  judge_not t = rw (e, t)
