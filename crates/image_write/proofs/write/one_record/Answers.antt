use Rattle.std.proofs.Common.{ap, ◌∙◌, length, arith, length-take, length-drop}
use mathlib.Core.List.{flatten}
use Rattle.image_forms.specs.Forms.{head_of}
use Rattle.image_forms.proofs.Laws.{head-length}
use Rattle.image_write.specs.Written.{fields_of, record_of}
use Rattle.image_write.proofs.Lengths.{fields-length, record_parts}
use Rattle.image_write.proofs.Parts.{length_over, laid_next}
use Rattle.image_write.proofs.write.one_record.Goals as goal

pub all_fields-requires : goal.all_fields-requires
all_fields-requires c =
    let form = c.args.form in
    let p = c.args.p.now in
    let parts = record_parts form in
    let n = head-length p.id.0 p.group.0 p.profile form in
    let long = ap length c.head.ensures ∙ length_over (head_of form p.id.0 p.group.0 p.profile) c.args.out.now (omega arith) in
    simp (length-take, length-drop) (omega arith)

pub returns : goal.returns
unfolding record_of
returns c =
    let form = c.args.form in
    let p = c.args.p.now in
    let parts = record_parts form in
    let n = head-length p.id.0 p.group.0 p.profile form in
    let many = fields-length form p.values c.requires.0 in
    laid_next _ (head_of form p.id.0 p.group.0 p.profile) (flatten (fields_of form p.values)) c.args.out.now _ _ c.head.ensures (omega arith) (omega arith) c.all_fields.ensures
