use mir.Syntax.{w8}
use mir.ValLaws.{to_z-of_z}
use Rattle.profiles.specs.Video.{bytes_of}
use Rattle.profiles.proofs.bytes_of.Goals as goal

pub returns : goal.returns
unfolding bytes_of
returns c = rw (c.tint_byte-tint.ensures, to_z-of_z w8 c.args.video.tint (record { sfits = c.struct_told-1.given.1.1.1.1.0.1 }))
