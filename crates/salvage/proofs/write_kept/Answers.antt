-- Form 2 holds every wall, and there is room, so the image is written. Assumes nothing.
use Rattle.std.proofs.Common.{◌≡◌, ◌≤◌, List, ℕ, length, ap, ◌∙◌, arith, Ok}
use Rattle.std.specs.Prelude.{is_ok}
use Rattle.lists.specs.Lists.{laid_over}
use Rattle.panels.specs.declared.Table.{Table}
use Rattle.panels.specs.Wall.{panels_of}
use Rattle.panels.specs.WellFormed.{WellFormed}
use Rattle.image_forms.specs.declared.Form.{Form}
use Rattle.image_write.specs.Written.{setup_of, size_of, largest, written_of, output_of}
use Rattle.image_write.proofs.Losing.{two_holds, is_written}
use Rattle.salvage.proofs.write_kept.Goals as goal

writes : (t : Table) (out : List ℕ) → WellFormed t × (largest ≤ length out)
    → let w = panels_of t in (written_of Form.Two w out ≡ Ok (size_of Form.Two w)) × (output_of Form.Two w out ≡ laid_over (setup_of Form.Two w) out)
writes t out (f, room) = is_written Form.Two (panels_of t) out (two_holds (panels_of t)) (omega (arith, f.few))

pub unwrap-requires : goal.unwrap-requires
unwrap-requires c = ap is_ok (c.write_image.ensures.value ∙ (writes _ _ c.requires).0)

pub returns-clause-value : goal.returns-clause-value
returns-clause-value c = let written = c.write_image.ensures.value ∙ (writes _ _ c.requires).0 in cc

pub returns-clause-out_after : goal.returns-clause-out_after
returns-clause-out_after c = c.write_image.ensures.out_after ∙ (writes _ _ c.requires).1
