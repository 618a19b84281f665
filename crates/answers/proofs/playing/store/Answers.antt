use Rattle.std.proofs.Common.{◌<◌, ◌-◌, length, sym, ◌∙◌}
use lib.Seq.{set-get_or}
use borrow.Rule.Slice.PartMut.{mid_of}
use Rattle.answers.proofs.Turned.{stored_many}
use Rattle.answers.proofs.Passes.{all_turned, pass_last, pass_stored, pass_stays}
use Rattle.answers.proofs.playing.store.Goals as goal
use Rattle.answers.proofs.playing.store.Goals.{then-is_stored, else-is_stored}

pub with_values-requires : goal.with_values-requires
with_values-requires c =
    let fits = c.requires.1 in
    stored_many _ _ c.args.d.now _ fits.has_code (rw c.index.ensures.number at (sym c.is_stored.ensures ∙ c.if-is_stored.true))

pub loop-p-preserved : goal.loop-p-preserved
loop-p-preserved c =
    let change = c.args.change in
    let l = mid_of change.span.first (change.span.end - change.span.first) c.args.t.now.panels in
    let inside : c.loop-p.p-index < length l = c.loop-p-test.true in
    elim c.if-is_stored.branch [
      | then-is_stored w ↦ w.p-items-is ∙ pass_stored change c.args.d.now l c.loop-p.invariant inside _ (rw c.index.ensures.number at (sym c.is_stored.ensures ∙ w.if-is_stored.true)) w.with_values.ensures
      | else-is_stored w ↦ w.p-items-is ∙ set-get_or c.loop-p.p-items c.loop-p.p-index _ ∙ pass_stays change c.args.d.now l c.loop-p.invariant inside _ (rw c.index.ensures.number at (sym c.is_stored.ensures ∙ w.if-is_stored.false))
    ]

pub returns : goal.returns
returns c = pass_last c.requires.0 c.args.change c.args.d.now c.requires.1 _ (c.loop-p.invariant ∙ all_turned _ _ _ c.loop-p-test.false)
