use mathlib.Core.Path.{sym, ap, ◌∙◌}
use mathlib.Core.List.{flatten}
use Prim.Native.Nat.{ℕ}
use native.Mathlib.Omega.{arith}
use lib.ListN.{get_or}
use Rattle.tiling.specs.declared.Kind.{Kind}
use Rattle.models.specs.declared.Model.{Model}
use Rattle.models.specs.Models.{kind_for}
use Rattle.settings.specs.Settings.{settings, allowed_by_row, kind_row}
use Rattle.settings.proofs.Laws.{value_of}
use Rattle.models.proofs.model_in.Goals as goal

pub bounds-values-place : goal.bounds-values-place
unfolding settings allowed_by_row flatten
bounds-values-place c = omega (arith, c.place.ensures)

pub returns : goal.returns
unfolding settings allowed_by_row flatten
returns c =
    let a = c.args in
    let place = ap (λ (p : ℕ). get_or a.values.now p 0) c.place.ensures in
    let number = place ∙ sym (value_of kind_row 0 a.values.now (omega arith)) in
    ap {B = Model} (λ (kind : Kind). record { profile = a.profile; kind = kind }) (c.kind_for-kind.ensures ∙ ap kind_for number)
