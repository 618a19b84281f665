use mathlib.Core.Path.{◌≡◌, refl, ap, ap₂, ◌∙◌}
use mathlib.Core.List.{List, [], ◌∷◌, ◌++◌}
use Prim.Native.Nat.{ℕ, ◌+◌, ◌-◌, ◌≤◌}
use native.Mathlib.Omega.{arith}
use borrow.Rule.Slice.PartMut.{put_mid, mid_of}
use lib.ListN.{length, get_or, drop, length-take, length-drop}
use Rattle.settings.proofs.Laws.{place_fits}
use Rattle.lists.specs.Lists.{laid_at}
use Rattle.lists.proofs.Laid.{laid_set, laid_copy, laid_part}
use Rattle.settings.proofs.rows.Row.store.Goals as goal

-- The one value is set at the row's place, or the values are copied there. Assumes nothing.
one : (l : List ℕ) → length l ≡ 1 → get_or l 0 0 ∷ [] ≡ l
one [] e = absurd (omega arith)
one (x ∷ []) e = refl
one (x ∷ y ∷ l) e = absurd (omega arith)

pub bounds-values-at : goal.bounds-values-at
bounds-values-at c =
    let inside : let a = c.args in c.place-at.result + length a.vs.now ≤ length a.values.now = omega (arith, place_fits c.args.self, c.place-at.ensures, c.requires) in
    omega (arith, inside)

pub returns-then-vs-eq1 : goal.returns-then-vs-eq1
returns-then-vs-eq1 c =
    let inside : let a = c.args in c.place-at.result + length a.vs.now ≤ length a.values.now = omega (arith, place_fits c.args.self, c.place-at.ensures, c.requires) in
    let a = c.args in
    laid_set c.place-at.result (get_or a.vs.now 0 0) a.values.now (omega (arith, inside))
    ∙ ap₂ (λ (at : ℕ) (b : List ℕ). laid_at at b a.values.now) c.place-at.ensures (one a.vs.now c.if-vs-eq1.true)

pub overflow_add-at : goal.overflow_add-at
overflow_add-at c =
    let inside : let a = c.args in c.place-at.result + length a.vs.now ≤ length a.values.now = omega (arith, place_fits c.args.self, c.place-at.ensures, c.requires) in
    omega (arith, inside)

pub slice_bounds-copy-end : goal.slice_bounds-copy-end
slice_bounds-copy-end c =
    let inside : let a = c.args in c.place-at.result + length a.vs.now ≤ length a.values.now = omega (arith, place_fits c.args.self, c.place-at.ensures, c.requires) in
    omega (arith, inside)

pub returns-then-vs-eq-MOST_VALUES : goal.returns-then-vs-eq-MOST_VALUES
returns-then-vs-eq-MOST_VALUES c =
    let inside : let a = c.args in c.place-at.result + length a.vs.now ≤ length a.values.now = omega (arith, place_fits c.args.self, c.place-at.ensures, c.requires) in
    let a = c.args in
    let first = c.place-at.result in
    let whole : first + 7 - first ≡ length a.vs.now = omega (arith, c.if-vs-eq-MOST_VALUES.true) in
    let copied : c.copy.new.out ≡ a.vs.now ++ drop (length a.vs.now) (mid_of first (length a.vs.now) a.values.now) =
    c.copy.ensures.laid ∙ ap (λ (n : ℕ). a.vs.now ++ drop (length a.vs.now) (mid_of first n a.values.now)) whole in
    ap₂ (λ (n : ℕ) (m : List ℕ). put_mid first n a.values.now m) whole copied
    ∙ laid_part first a.vs.now a.values.now inside ∙ ap (λ (at : ℕ). laid_at at a.vs.now a.values.now) c.place-at.ensures

pub slice_bounds-copy-count-2 : goal.slice_bounds-copy-count-2
slice_bounds-copy-count-2 c =
    let inside : let a = c.args in c.place-at.result + length a.vs.now ≤ length a.values.now = omega (arith, place_fits c.args.self, c.place-at.ensures, c.requires) in
    omega (arith, inside)

pub slice_bounds-copy-start-2 : goal.slice_bounds-copy-start-2
slice_bounds-copy-start-2 c =
    let inside : let a = c.args in c.place-at.result + length a.vs.now ≤ length a.values.now = omega (arith, place_fits c.args.self, c.place-at.ensures, c.requires) in
    omega (arith, inside)

pub copy-requires-2 : goal.copy-requires-2
copy-requires-2 c =
    let inside : let a = c.args in c.place-at.result + length a.vs.now ≤ length a.values.now = omega (arith, place_fits c.args.self, c.place-at.ensures, c.requires) in
    simp (length-take, length-drop) (omega (arith, inside))

pub returns : goal.returns
returns c =
    let inside : let a = c.args in c.place-at.result + length a.vs.now ≤ length a.values.now = omega (arith, place_fits c.args.self, c.place-at.ensures, c.requires) in
    let a = c.args in
    let first = c.place-at.result in
    let copied = ap (put_mid first (length a.values.now - first) a.values.now) c.copy-2.ensures.laid in
    copied ∙ laid_copy first a.vs.now a.values.now inside ∙ ap (λ (at : ℕ). laid_at at a.vs.now a.values.now) c.place-at.ensures
