-- Nothing would be lost and there is room, so the image is written. Assumes nothing.
use Rattle.std.proofs.Common.{ap, ◌∙◌}
use Rattle.std.specs.Prelude.{is_ok}
use Rattle.image_write.proofs.Losing.{is_written}
use Rattle.image_back.proofs.Back.{image_size}
use Rattle.undivarro.proofs.parts.put_setup.Goals as goal

pub unwrap-requires : goal.unwrap-requires
unwrap-requires c =
    let (f, held, room) = c.requires in
    ap is_ok (c.write_image.ensures.value ∙ (is_written _ _ _ held room).0)

pub returns : goal.returns
returns c =
    let (f, held, room) = c.requires in
    let written = c.write_image.ensures.value ∙ (is_written _ _ _ held room).0 in
    let size = image_size c.args.form _ f.good in
    record { value = cc; out_after = c.write_image.ensures.out_after ∙ (is_written _ _ _ held room).1 }
