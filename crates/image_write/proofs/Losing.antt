-- Which walls a form holds whole. Assumes nothing.
use mathlib.Core.Path.{◌≡◌, refl}
use mathlib.Core.Bool.{true}
use mathlib.Core.List.{List, [], ◌∷◌, ◌++◌}
use Prim.Native.Nat.{ℕ, ◌≤◌}
use Rattle.std.specs.Prelude.{Ok}
use lib.ListN.{length}
use Rattle.panels.specs.declared.Panel.{Panel}
use Rattle.panels.specs.Wall.{Wall}
use Rattle.image_forms.specs.declared.Form.{Form}
use Rattle.image_forms.specs.Forms.{keeps}
use Rattle.image_forms.proofs.Laws.{two_keeps}
use Rattle.image_write.specs.Written.{setup_of, size_of, loses_nothing, written_of, output_of}
use Rattle.lists.specs.Lists.{laid_over}
use Rattle.lists.proofs.Both.{both}
use Rattle.std.proofs.Common.{arith}
use Rattle.std.proofs.lemmas.Grind.{common_steps}

-- form 2 holds every wall
pub two_holds : (w : Wall) → loses_nothing Form.Two w ≡ true
unfolding loses_nothing
two_holds [] = refl
two_holds (p ∷ w) = rw (two_keeps p.profile p.values) (two_holds w)

module _ (form : Form) where
  -- each panel
  pub first_held : (p : Panel) (w : Wall) → loses_nothing form (p ∷ w) ≡ true
      → (keeps form p.profile p.values ≡ true) × (loses_nothing form w ≡ true)
  unfolding loses_nothing
  first_held p w e = grind (arith, common_steps)

  pub one_more : (w : Wall) (p : Panel) → loses_nothing form w ≡ true → keeps form p.profile p.values ≡ true
      → loses_nothing form (w ++ p ∷ []) ≡ true
  unfolding loses_nothing
  one_more [] p e h = rw h
  one_more (q ∷ w) p e h = let (a, b) = both (keeps form q.profile q.values) (loses_nothing form w) e in rw (a, one_more w p b h)

  -- where nothing is lost and there is room an image is written, and there alone
  pub is_written : (w : Wall) (out : List ℕ) → loses_nothing form w ≡ true → size_of form w ≤ length out
      → (written_of form w out ≡ Ok (size_of form w)) × (output_of form w out ≡ laid_over (setup_of form w) out)
  unfolding written_of output_of
  is_written w out held room = grind (arith, common_steps)

  pub was_written : (w : Wall) (out : List ℕ) (n : ℕ) → written_of form w out ≡ Ok n
      → (loses_nothing form w ≡ true) × (size_of form w ≤ length out) × (n ≡ size_of form w)
  unfolding written_of
  was_written w out n e = grind (arith, common_steps)
