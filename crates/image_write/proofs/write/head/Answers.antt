use Rattle.std.proofs.Common.{◌≡◌, ℕ, ◌≤◌, length, List, [], ◌∷◌, set, refl, arith}
use Rattle.lists.specs.Lists.{laid_over}
use Rattle.image_forms.specs.declared.Form.{Form}
use Rattle.image_forms.proofs.Laws.{head_some}
use Rattle.image_write.proofs.Parts.{two_over}
use Rattle.image_write.proofs.write.head.Goals as goal

three_over : (a b d : ℕ) (l : List ℕ) → 3 ≤ length l → set (set (set l 0 a) 1 b) 2 d ≡ laid_over (a ∷ b ∷ d ∷ []) l
unfolding laid_over
three_over a b d [] h = absurd (omega arith)
three_over a b d (x ∷ []) h = absurd (omega arith)
three_over a b d (x ∷ y ∷ []) h = absurd (omega arith)
three_over a b d (x ∷ y ∷ z ∷ l) h = refl

is_one : (form : Form) → (form ≡ Form.Two → ⊥) → form ≡ Form.One
is_one Form.One other = refl
is_one Form.Two other = absurd (other refl)

pub returns-in-Two : goal.returns-in-Two
returns-in-Two c = let room = rw c.in-Two.is at c.requires in rw (c.in-Two.is, c.from.ensures) (three_over _ _ _ c.args.out.now room)

pub returns-in_default : goal.returns-in_default
returns-in_default c = rw (is_one c.args.form c.in_default.not-Two) (two_over _ _ c.args.out.now (omega (arith, head_some c.args.form)))
