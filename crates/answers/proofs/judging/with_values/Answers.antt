use mathlib.Core.Path.{sym, ap, ◌∙◌}
use mathlib.Core.List.{List}
use Prim.Native.Nat.{ℕ, ◌-◌}
use native.Mathlib.Omega.{arith}
use lib.ListN.{length, get_or, drop, length-drop}
use lib.Seq.{take_all}
use Rattle.settings.specs.Settings.{values_of, values_with, tiling_row}
use Rattle.models.proofs.Filled.{filled-other, length-filled}
use Rattle.panels.specs.declared.Panel.{Panel}
use Rattle.settings.proofs.Laws.{eq_same, eq_other}
use Rattle.answers.specs.Judged.{stored, held_then}
use Rattle.answers.proofs.judging.with_values.Goals as goal

-- The values behind the set code are stored, of a tiling those that the panel then holds. Assumes nothing.
abbrev with_these : Panel → List ℕ → Panel
with_these p vs = record { id = p.id; group = p.group; profile = p.profile; values = vs }

pub store-requires : goal.store-requires
store-requires c =
    let count = ap length c.tiling_then-held.ensures ∙ length-filled tiling_row _ (drop 1 c.args.d.now) in
    omega (arith, rw length-drop at count, c.requires)

pub returns-then-eq : goal.returns-then-eq
unfolding stored
returns-then-eq c =
    let a = c.args in
    let held = c.tiling_then-held.ensures ∙ ap (λ (row : ℕ). held_then row (drop 1 a.d.now) a.p) (sym (eq_same c.eq.ensures c.if-eq.true)) in
    ap (with_these a.p) (c.store.ensures ∙ ap (λ (vs : List ℕ). values_with a.row vs a.p.values) held)

pub returns : goal.returns
unfolding stored
returns c =
    let a = c.args in
    let d = a.d.now in
    let all = take_all (length d - 1) (drop 1 d) (rw length-drop (omega arith)) in
    let held = all ∙ sym (filled-other a.row (get_or (values_of a.row a.p.values) 3 0) (drop 1 d) (eq_other c.eq.ensures c.if-eq.false)) in
    ap (with_these a.p) (c.store-2.ensures ∙ ap (λ (vs : List ℕ). values_with a.row vs a.p.values) held)
