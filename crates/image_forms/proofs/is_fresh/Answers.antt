use mathlib.Core.Path.{◌≡◌, ◌∙◌}
use mathlib.Core.Bool.{Bool}
use mathlib.Core.List.{List}
use Prim.Native.Nat.{ℕ, ◌+◌, ◌-◌}
use native.Mathlib.Omega.{arith}
use borrow.Author.Rules.{rules}
use lib.Dec.{eqb}
use lib.ListN.{take, drop}
use lib.Pointwise.{pointwise}
use Rattle.lists.proofs.Same.{eq_same}
use Rattle.settings.specs.declared.Profile.{Profile}
use Rattle.settings.specs.Settings.{place, byte_count, fresh_values}
use Rattle.settings.proofs.Laws.{place_fits}
use Rattle.image_forms.specs.Forms.{is_fresh}
use Rattle.image_forms.proofs.is_fresh.Goals as goal

-- The row's bytes are those from its place up to its end. Assumes nothing.
compared : (row first count : ℕ) (v fresh : List ℕ) {r : Bool} → first ≡ place row → count ≡ byte_count row → fresh ≡ fresh_values Profile.General
    → r ≡ pointwise eqb (take (first + count - first) (drop first v)) (take (first + count - first) (drop first fresh)) → r ≡ is_fresh row v
compared row first count v fresh p n f e =
    let many : first + count - first ≡ count = omega arith in
    e ∙ eq_same (take (first + count - first) (drop first v)) (take (first + count - first) (drop first fresh)) ∙ rw (many, p, n, f)

pub overflow_add-end : goal.overflow_add-end
overflow_add-end c = omega (arith, place_fits c.args.row)

pub slice_bounds-eq-end : goal.slice_bounds-eq-end
slice_bounds-eq-end c = search (rules, place_fits c.args.row)

pub slice_bounds-eq-end-2 : goal.slice_bounds-eq-end-2
slice_bounds-eq-end-2 c = search (rules, place_fits c.args.row)

pub returns : goal.returns
returns c = compared _ _ _ _ _ c.place-first.ensures c.byte_count.ensures.count c.fresh-fresh.ensures c.eq.ensures
