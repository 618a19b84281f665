use Rattle.std.proofs.Common.{rules, ◌≡◌, ℕ, ◌+◌, ◌≤◌, ◌<◌, List, length, take, ap, sym, ◌∙◌, arith, add-one, length-append, length-take, length-drop}
use mathlib.Core.List.{flatten}
use Rattle.settings.specs.Settings.{row_count, value_count}
use Rattle.lists.specs.Lists.{start_of, laid_over}
use Rattle.lists.proofs.Each.{in_each}
use Rattle.lists.proofs.Flat.{flat_more}
use Rattle.image_forms.specs.declared.Form.{Form}
use Rattle.image_write.specs.Written.{field_in, fields_of}
use Rattle.image_write.specs.Private.Sizes.{fields_size}
use Rattle.image_write.proofs.Lengths.{field_at, fields-count, fields_all, fields-length}
use Rattle.image_write.proofs.Parts.{length_over, one_fits, one_more}
use Rattle.image_write.proofs.write.all_fields.Goals as goal

-- there is room for the next field
fits : (form : Form) (values : List ℕ) → length values ≡ value_count → (row next : ℕ) (out l : List ℕ) → row < row_count
    → next ≡ start_of (fields_of form values) row → out ≡ laid_over (flatten (take row (fields_of form values))) l → fields_size form ≤ length l
    → (next + length (field_in form values row) ≤ length out) × (length out ≡ length l)
fits form values full row next out l here at so_far room =
    let fields = fields_of form values in
    let whole = fields-length form values full in
    let e = field_at form values {row = row} here in
    let h = one_fits fields row next l out l (omega (arith, fields-count form values)) at so_far (omega arith) in
    let long = ap length so_far ∙ length_over (flatten (take row fields)) l (omega arith) in
    (rw (← e) (omega arith), long)

pub loop-k-init : goal.loop-k-init
unfolding flatten laid_over
loop-k-init c = search rules

pub slice_bounds-field_in-count : goal.slice_bounds-field_in-count
slice_bounds-field_in-count c =
    let (room, long) = fits c.args.form c.args.values.now (omega arith) _ _ _ _ (omega arith) c.loop-k.invariant.next c.loop-k.invariant.laid c.requires in
    omega arith

pub slice_bounds-field_in-start : goal.slice_bounds-field_in-start
slice_bounds-field_in-start c =
    let (room, long) = fits c.args.form c.args.values.now (omega arith) _ _ _ _ (omega arith) c.loop-k.invariant.next c.loop-k.invariant.laid c.requires in
    omega arith

pub field_in-next-requires : goal.field_in-next-requires
field_in-next-requires c =
    let (room, long) = fits c.args.form c.args.values.now (omega arith) _ _ _ _ (omega arith) c.loop-k.invariant.next c.loop-k.invariant.laid c.requires in
    let here = c.numbered.ensures in
    rw here (simp (length-take, length-drop) (omega arith))

pub overflow_add-next : goal.overflow_add-next
overflow_add-next c =
    let (room, long) = fits c.args.form c.args.values.now (omega arith) _ _ _ _ (omega arith) c.loop-k.invariant.next c.loop-k.invariant.laid c.requires in
    let here = c.numbered.ensures in
    let size = c.field_in-next.ensures.value ∙ ap (λ (k : ℕ). length (field_in c.args.form c.args.values.now k)) here in
    omega (arith, size, room)

pub loop-k-preserved : goal.loop-k-preserved
loop-k-preserved c =
    let form = c.args.form in
    let values = c.args.values.now in
    let row = c.loop-k.k in
    let fields = fields_of form values in
    let here : row < length fields = omega (arith, fields-count form values) in
    let e = field_at form values {row = row} (omega arith) in
    let whole = fields-length form values (omega arith) in
    let it = c.numbered.ensures in
    let long = c.field_in-next.ensures.value ∙ ap (λ (k : ℕ). length (field_in form values k)) it in
    record {
      next = rw (add-one, flat_more fields row here, length-append (flatten (take row fields)), e) (omega (arith, long));
      laid = one_more fields row _ c.args.out.now _ _ here c.loop-k.invariant.next c.loop-k.invariant.laid (omega arith) (rw (e ∙ sym (ap (λ (k : ℕ). field_in form values k) it)) c.field_in-next.ensures.out_after);
    }

pub returns : goal.returns
returns c = let all : c.loop-k.k ≡ row_count = omega arith in c.loop-k.invariant.laid ∙ rw (all, fields_all c.args.form c.args.values.now)
