-- What the parts of a batch leave together. Assumes nothing.
use Prim.Native.Nat.{ℕ}
use mathlib.Core.List.{List}
use mathlib.Core.Path.{◌≡◌}
use borrow.Author.Tests.{eq-eqb, ne_eqb}
use lib.ListN.{length}
use Rattle.std.specs.Prelude.{None}
use Rattle.lists.specs.Lists.{laid_over}
use Rattle.packet.specs.declared.Edition.{Edition}
use Rattle.panels.specs.Wall.{Wall}
use Rattle.image_forms.specs.declared.Form.{Form}
use Rattle.image_write.specs.Written.{setup_of}
use Rattle.batch.specs.Scene.{Scene, scene_of, refusal_number}
use Rattle.batch.proofs.Scenes.{refused_silent}
use Rattle.undivarro.specs.Calls.{refused, given, after_list}

module _ (edition : Edition) (w : Wall) (list answers out : List ℕ) where
  abbrev scene : Scene
  scene = scene_of edition w list (length answers)

  pub list_refused : (refusal_number scene.refusal ≡ 0 → ⊥) → refused (refusal_number scene.refusal) (laid_over scene.answers answers) out ≡ after_list edition w list answers out
  unfolding laid_over
  list_refused h = rw (refused_silent edition w list (length answers) h, ne_eqb (refusal_number scene.refusal) 0 h)

  pub list_given : refusal_number scene.refusal ≡ 0 → given scene.answers (setup_of Form.Two scene.wall) None answers out ≡ after_list edition w list answers out
  list_given h = rw (eq-eqb (refusal_number scene.refusal) 0 h)
