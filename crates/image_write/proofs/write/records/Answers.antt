use Rattle.std.proofs.lemmas.List.{get_or_default}
use Rattle.std.proofs.Common.{rules, ◌≡◌, ℕ, ◌+◌, ◌-◌, ◌*◌, ◌≤◌, ◌<◌, List, length, take, get_or, sym, ap, ◌∙◌, arith, length-take, length-drop}
use mathlib.Core.List.{flatten}
use borrow.Rule.Slice.PartMut.{mid_of, put_mid}
use lib.ListN.{length-map}
use lib.Seq.{take_all}
use Rattle.lists.specs.Lists.{laid_over}
use Rattle.settings.specs.Settings.{value_count}
use Rattle.panels.specs.declared.Panel.{Panel}
use Rattle.panels.specs.Wall.{Wall, panels_of, blank}
use Rattle.panels.specs.WellFormed.{GoodWall}
use Rattle.panels.proofs.Laws.{held_first}
use Rattle.panels.proofs.Formed.{good_at}
use Rattle.image_forms.specs.declared.Form.{Form}
use Rattle.image_write.specs.Written.{record_of, records_of, record_size}
use Rattle.image_write.proofs.Lengths.{record_at, records-before, records_long, products}
use Rattle.image_write.proofs.Parts.{length_over, one_more}
use Rattle.image_write.proofs.write.records.Goals as goal

-- Record k of a wall, behind those before it. Assumes nothing.
module _ (form : Form) (w : Wall) (good : GoodWall w) (k size : ℕ) (l out : List ℕ) (here : k < length w) (sized : size ≡ record_size form)
    (room : record_size form * length w ≤ length l) (so_far : out ≡ laid_over (flatten (take k (records_of form w))) l) where
  start : size * k ≡ length (flatten (take k (records_of form w)))
  start = rw sized (sym (records-before form w good k (omega arith)))

  fits : (size * k + record_size form ≤ length out) × (length out ≡ length l)
  fits =
      let product = products form k (length w) in
      let next = product.1 here in
      let up_to = product.2 (omega arith) in
      let at : size * k ≡ record_size form * k = rw sized in
      let n = records-before form w good k (omega arith) in
      let long = ap length so_far ∙ length_over (flatten (take k (records_of form w))) l (omega arith) in
      (omega arith, long)

  full : (d : Panel) → length (get_or w k d).values ≡ value_count
  full d = rw (get_or_default w k d blank here) (good_at w good k here).full

  more : (d : Panel) (last : List ℕ) → last ≡ laid_over (record_of form (get_or w k d)) (mid_of (size * k) (length out - size * k) out)
      → put_mid (size * k) (length out - size * k) out last ≡ laid_over (flatten (take (k + 1) (records_of form w))) l
  more d last e =
      let whole = records_long form w good in
      one_more (records_of form w) k (size * k) l out last (rw length-map here) start so_far (omega arith)
      (e ∙ rw (record_at form w k here, get_or_default w k d blank here))

pub loop-k-init : goal.loop-k-init
unfolding flatten laid_over
loop-k-init c = search rules

pub one_record-requires : goal.one_record-requires
one_record-requires c =
    let held = held_first _ c.panels_of-places.ensures c.count_of-n.ensures in
    let here = rw held at c.loop-k-test.true in
    let (room, long) = fits c.args.form _ c.requires.0.good _ _ c.args.out.now c.loop-k.out here c.record_size-size.ensures c.requires.1 (rw held at c.loop-k.invariant) in
    (rw held (full c.args.form _ c.requires.0.good _ _ c.args.out.now c.loop-k.out here c.record_size-size.ensures c.requires.1 (rw held at c.loop-k.invariant) _), simp (length-take, length-drop) (omega arith))

pub loop-k-preserved : goal.loop-k-preserved
loop-k-preserved c =
    let held = held_first _ c.panels_of-places.ensures c.count_of-n.ensures in
    let here = rw held at c.loop-k-test.true in
    rw held (more c.args.form _ c.requires.0.good _ _ c.args.out.now c.loop-k.out here c.record_size-size.ensures c.requires.1 (rw held at c.loop-k.invariant) _ _ (rw held at c.one_record.ensures))

pub returns : goal.returns
returns c =
    let held = held_first _ c.panels_of-places.ensures c.count_of-n.ensures in
    let w = panels_of c.args.t in
    let past = rw held at c.loop-k-test.false in
    let all : take c.loop-k.k (records_of c.args.form w) ≡ records_of c.args.form w = take_all c.loop-k.k (records_of c.args.form w) (rw length-map past) in
    rw held at c.loop-k.invariant ∙ ap (λ ls. laid_over (flatten ls) c.args.out.now) all
