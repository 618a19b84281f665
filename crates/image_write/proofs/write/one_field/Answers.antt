use Rattle.std.proofs.Common.{◌≡◌, ◌+◌, ◌-◌, ◌∙◌, arith}
use Rattle.settings.specs.Settings.{byte_count, values_of}
use Rattle.settings.proofs.Laws.{place_fits}
use Rattle.panels.proofs.Values.{length-values}
use Rattle.image_write.proofs.Parts.{headed}
use Rattle.image_write.proofs.write.one_field.Goals as goal

pub overflow_cast-out : goal.overflow_cast-out
overflow_cast-out c = omega (arith, place_fits c.args.row)

pub overflow_add-first : goal.overflow_add-first
overflow_add-first c = omega (arith, place_fits c.args.row)

pub slice_bounds-copy_from_slice-end-2 : goal.slice_bounds-copy_from_slice-end-2
slice_bounds-copy_from_slice-end-2 c = omega (arith, place_fits c.args.row)

pub returns : goal.returns
returns c =
    let row = c.args.row in
    let values = c.args.values.now in
    let many : c.place-first.result + c.byte_count-count.result - c.place-first.result ≡ byte_count row = omega arith in
    let own : c.copy_from_slice.new.self ≡ values_of row values = c.copy_from_slice.ensures.after ∙ rw (many, c.place-first.ensures) in
    rw (own, c.set_code.ensures, c.byte_count-count.ensures.count)
    (headed _ _ _ _ c.args.out.now (omega arith) (omega (arith, length-values row values (omega arith))))
