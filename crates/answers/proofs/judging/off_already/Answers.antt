use mathlib.Core.Path.{◌≡◌, refl, sym, ap, ◌∙◌}
use mathlib.Core.Bool.{true, false}
use mathlib.Core.List.{List, flatten}
use Prim.Native.Nat.{ℕ}
use native.Mathlib.Omega.{arith}
use borrow.Author.Tests.{eq-eqb, ne_eqb}
use lib.Dec.{eqb}
use lib.ListN.{length, get_or, drop, length-drop}
use lib.Seq.{take_all, get_or-drop}
use Rattle.lists.specs.Lists.{same}
use Rattle.lists.proofs.Same.{same_first, same-other}
use Rattle.settings.specs.Settings.{settings, allowed_by_row, place, power_row, off}
use Rattle.panels.specs.declared.Panel.{Panel}
use Rattle.answers.specs.Judged.{off_already}
use Rattle.answers.proofs.Orders.{is_off}
use Rattle.answers.proofs.judging.off_already.Goals as goal

-- Power off is two bytes, and power is one value of a panel. Assumes nothing.
-- the values behind the set code
sets_off : (d : List ℕ) → length d ≡ 2 → same (drop 1 d) off ≡ eqb (get_or d 1 0) 1
sets_off d e =
    let one : length (drop 1 d) ≡ 1 = rw length-drop (omega arith) in
    ap (λ (l : List ℕ). same l off) (sym (take_all 1 (drop 1 d) (omega arith))) ∙ same_first (drop 1 d) 1 (omega arith)
    ∙ ap (λ (v : ℕ). eqb v 1) (get_or-drop 1 d 0 0)

sets_other : (d : List ℕ) → (length d ≡ 2 → ⊥) → same (drop 1 d) off ≡ false
sets_other d n = same-other (drop 1 d) 1 (λ e. n (omega (arith, rw length-drop at e)))

module _ (row : ℕ) (vs : List ℕ) (p : Panel) where
  other_row : (row ≡ power_row → ⊥) → off_already row vs p ≡ false
  unfolding off_already
  other_row n = rw (ne_eqb row power_row n)

  other-values : row ≡ power_row → same vs off ≡ false → off_already row vs p ≡ false
  unfolding off_already
  other-values e f = rw (e, f)

  power : row ≡ power_row → same vs off ≡ true → off_already row vs p ≡ eqb (get_or p.values (place power_row) 0) 1
  unfolding off_already
  power e f = rw (e, f) (is_off p.values)

first : place power_row ≡ 1
unfolding settings allowed_by_row flatten
first = refl

pub returns-then-row-index : goal.returns-then-row-index
returns-then-row-index c = sym (other_row _ _ _ (λ e. c.if-row-index.true (e ∙ sym c.index.ensures.number)))

pub returns-then-d-ne2 : goal.returns-then-d-ne2
returns-then-d-ne2 c =
    let a = c.args in
    sym (other-values _ _ _ (c.if-row-index.false ∙ c.index.ensures.number) (sets_other a.d.now c.if-d-ne2.true))

pub bounds-values-place : goal.bounds-values-place
bounds-values-place c =
    let at_first : c.place.result ≡ place power_row = c.place.ensures in
    omega (arith, at_first, first)

pub returns-then-d-eq-OFF : goal.returns-then-d-eq-OFF
returns-then-d-eq-OFF c =
    let at_first : c.place.result ≡ place power_row = c.place.ensures in
    let a = c.args in
    let to = sets_off a.d.now c.if-d-ne2.false ∙ eq-eqb _ 1 c.if-d-eq-OFF.true in
    ap (λ (n : ℕ). eqb (get_or a.p.values n 0) 1) at_first ∙ sym (power _ _ _ (c.if-row-index.false ∙ c.index.ensures.number) to)

pub returns-else-d-eq-OFF : goal.returns-else-d-eq-OFF
returns-else-d-eq-OFF c =
    let a = c.args in
    let differs = ne_eqb (get_or a.d.now 1 0) 1 c.if-d-eq-OFF.false in
    differs ∙ sym (other-values _ _ _ (c.if-row-index.false ∙ c.index.ensures.number) (sets_off a.d.now c.if-d-ne2.false ∙ differs))
