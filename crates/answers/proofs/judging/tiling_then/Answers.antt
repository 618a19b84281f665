use mathlib.Core.Path.{◌≡◌, refl, sym, ap, ◌∙◌}
use mathlib.Core.List.{List, [], ◌∷◌, flatten}
use Prim.Native.Nat.{ℕ, ◌+◌}
use native.Mathlib.Omega.{arith}
use lib.ListN.{length, get_or, drop}
use Rattle.settings.specs.Settings.{settings, allowed_by_row, place, tiling_row}
use Rattle.models.specs.Models.{filled}
use Rattle.settings.proofs.Laws.{value_of}
use Rattle.answers.proofs.judging.tiling_then.Goals as goal

-- The four values behind the set code are filled with the panel's own wall. Assumes nothing.
four : (d : List ℕ) → length d ≡ 5 → get_or d 1 0 ∷ get_or d 2 0 ∷ get_or d 3 0 ∷ get_or d 4 0 ∷ [] ≡ drop 1 d
four (k ∷ a ∷ b ∷ c ∷ d ∷ []) e = refl
four (k ∷ a ∷ b ∷ c ∷ d ∷ x ∷ l) e = absurd (omega arith)
four (k ∷ a ∷ b ∷ c ∷ []) e = absurd (omega arith)
four (k ∷ a ∷ b ∷ []) e = absurd (omega arith)
four (k ∷ a ∷ []) e = absurd (omega arith)
four (k ∷ []) e = absurd (omega arith)
four [] e = absurd (omega arith)

same_filled : {row v w : ℕ} {a b : List ℕ} → row ≡ tiling_row → v ≡ w → a ≡ b → filled row v a ≡ filled tiling_row w b
same_filled row v a = rw (row, v, a) refl

third : place tiling_row ≡ 2
unfolding settings allowed_by_row flatten
third = refl

pub overflow_add-wall : goal.overflow_add-wall
overflow_add-wall c =
    let at_third : c.place.result ≡ 2 = c.place.ensures ∙ third in
    omega (arith, at_third)

pub bounds-values-place : goal.bounds-values-place
bounds-values-place c =
    let at_third : c.place.result ≡ 2 = c.place.ensures ∙ third in
    omega (arith, at_third)

pub bounds-d-1 : goal.bounds-d-1
unfolding settings
bounds-d-1 c = omega arith

pub bounds-d-2 : goal.bounds-d-2
unfolding settings
bounds-d-2 c = omega arith

pub bounds-d-3 : goal.bounds-d-3
unfolding settings
bounds-d-3 c = omega arith

pub bounds-d-4 : goal.bounds-d-4
unfolding settings
bounds-d-4 c = omega arith

pub returns : goal.returns
unfolding settings
returns c =
    let a = c.args in
    let own = ap (λ (at : ℕ). get_or a.p.values (at + 3) 0) c.place.ensures ∙ sym (value_of tiling_row 3 a.p.values (omega arith)) in
    c.fill.ensures ∙ same_filled c.index.ensures.number own (four a.d.now c.requires)
