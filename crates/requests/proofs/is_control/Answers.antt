use mathlib.Core.Path.{ap, ◌∙◌}
use mathlib.Core.List.{[], ◌∷◌}
use Prim.Native.Nat.{ℕ}
use Rattle.lists.specs.Lists.{same}
use Rattle.lists.proofs.Same.{eq_same}
use Rattle.requests.specs.Said.{is_control}
use Rattle.requests.proofs.is_control.Goals as goal

pub returns : goal.returns
unfolding is_control
returns c =
    let d = c.args.d.now in
    c.eq.ensures ∙ eq_same d _ ∙ ap (same d) (c.as_slice.ensures ∙ ap (λ (b : ℕ). 0 ∷ b ∷ []) c.from.ensures)
