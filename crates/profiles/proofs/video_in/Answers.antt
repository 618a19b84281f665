use mir.Syntax.{w8}
use mir.ValLaws.{to_z-of_z}
use Rattle.profiles.specs.Video.{video_in}
use Rattle.profiles.proofs.video_in.Goals as goal

pub returns : goal.returns
unfolding video_in
returns c = rw (to_z-of_z w8 c.tint_of-tint.result (record { sfits = c.tint_of-tint.type_inv }), c.tint_of-tint.ensures)
