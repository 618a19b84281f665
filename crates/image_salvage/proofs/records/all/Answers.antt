use mathlib.Core.Path.{sym, ap, ap₂, ◌∙◌}
use mathlib.Core.List.{List}
use Prim.Native.Nat.{ℕ, ◌+◌, ◌≤◌, ◌<◌}
use native.Mathlib.Omega.{arith}
use borrow.Author.Rules.{rules}
use lib.ListN.{length}
use Rattle.lists.specs.Lists.{laid_at}
use Rattle.image_forms.specs.declared.Form.{Form}
use Rattle.panels.specs.declared.Table.{Table}
use Rattle.panels.specs.Wall.{table_of, most_panels}
use Rattle.image_frame.specs.Frame.{count_of}
use Rattle.image_salvage.specs.declared.KeptRecord.{KeptRecord}
use Rattle.image_salvage.specs.declared.Salvaged.{Salvaged}
use Rattle.image_salvage.specs.Salvaged.{lines_of, lines_cap}
use Rattle.image_salvage.specs.Private.Marked.{faults_by, record_by}
use Rattle.image_salvage.proofs.Rounds.{begins, ended, dropped_on, kept_on}
use Rattle.image_salvage.proofs.records.all.Goals as goal
use Rattle.image_salvage.proofs.records.all.Goals.{in-Some, in_default}

pub loop-k-init : goal.loop-k-init
loop-k-init c = begins c.args.frame.now c.args.lines.now c.blank_panel-blank.ensures

pub loop-k-preserved : goal.loop-k-preserved
loop-k-preserved c =
    let frame = c.args.frame.now in
    let k = c.loop-k.k in
    let more : k < count_of frame = omega (arith, c.count-count.ensures.value) in
    let most : count_of frame ≤ most_panels = omega (arith, c.count-count.ensures.value, c.count-count.ensures.few) in
    let enough : lines_cap ≤ length c.args.lines.now = search rules in
    let value = c.record-record.ensures.value ∙ ap₂ (λ (f : Form) (b : List ℕ). record_by f (k + 1) c.loop-k.told c.loop-k.seen b) c.form-form.ensures c.record.ensures in
    let laid =
    c.record-record.ensures.lines_after
    ∙ ap₂ (λ (f : Form) (b : List ℕ). laid_at c.loop-k.told (lines_of (k + 1) (faults_by f c.loop-k.seen b)) c.loop-k.lines) c.form-form.ensures c.record.ensures in
    let placed = ap (λ (r : KeptRecord). r.next) value in
    elim c.match-record.branch [
      | in-Some w ↦
          rw (w.places-is, w.kept-is, w.seen-is)
          (kept_on _ _ c.loop-k.invariant most enough more (ap (λ (r : KeptRecord). r.panel) (sym value) ∙ w.in-Some.is) laid placed (omega arith))
      | in_default w ↦
          rw (w.places-is, w.kept-is, w.seen-is)
          (dropped_on _ _ c.loop-k.invariant most enough more (ap (λ (r : KeptRecord). r.panel) (sym value) ∙ w.in_default.is) laid placed)
    ]

pub returns-clause-value : goal.returns-clause-value
returns-clause-value c =
    let all = ended _ _ c.loop-k.invariant (omega (arith, c.count-count.ensures.value, c.loop-k-test.false)) in
    ap₂ {C = Salvaged} (λ (t : Table) (n : ℕ). record { table = t; told = n }) (c.table_of-table.ensures ∙ ap table_of all.kept) all.told

pub returns-clause-lines_after : goal.returns-clause-lines_after
returns-clause-lines_after c = (ended _ _ c.loop-k.invariant (omega (arith, c.count-count.ensures.value, c.loop-k-test.false))).laid
