use mathlib.Core.Path.{◌≡◌, refl, sym, ap, ap₂, subst, ◌∙◌}
use mathlib.Core.Bool.{Bool, true}
use mathlib.Core.List.{List, [], ◌∷◌, ◌++◌}
use Prim.Native.Nat.{ℕ, ◌+◌, ◌<◌}
use native.Mathlib.Omega.{arith}
use lib.ListN.{length, take, drop, set, replicate, length-set}
use lib.Seq.{drop-length}
use Rattle.std.specs.Prelude.{Result, Ok}
use Rattle.std.proofs.lemmas.Result.{err_from_is_err_and}
use Rattle.lists.proofs.Each.{length-each}
use Rattle.panels.specs.declared.Panel.{Panel}
use Rattle.panels.specs.declared.Table.{Table}
use Rattle.panels.specs.Wall.{Wall, table_of, most_panels, id_count}
use Rattle.panels.proofs.Laws.{none-held, one-held}
use Rattle.image_forms.specs.declared.Form.{Form}
use Rattle.refusals.specs.declared.Refusal.{Refusal}
use Rattle.refusals.specs.Refusals.{if_sound}
use Rattle.image_frame.specs.Frame.{form_of, count_of, record_in, records_in}
use Rattle.image_record.specs.Head.{marked}
use Rattle.image_record.proofs.Heads.{Marks, none-marked, one_more}
use Rattle.image_read.specs.Read.{panel_in, read_records, in_table}
use Rattle.image_read.proofs.Sound.{records-step}
use Rattle.image_read.proofs.Marked.{panel_alike}
use Rattle.image_read.proofs.records.all.Goals as goal

-- what the records from k on make of the wall so far, by what record k comes to
with_record : (form : Form) (frame : List ℕ) {w : Wall} {seen : List Bool} (k : ℕ) {all : Result Wall Refusal} {p : Result Panel Refusal}
    → k < count_of frame → Marks seen w → all ≡ read_records form w (drop k (records_in frame)) → p ≡ panel_in form (marked seen) (record_in frame k)
    → all ≡ if_sound p (λ panel. read_records form (w ++ panel ∷ []) (drop (k + 1) (records_in frame)))
with_record form frame {w} k h m e p =
    e ∙ records-step form frame w k h
    ∙ ap (λ (r : Result Panel Refusal). if_sound r (λ panel. read_records form (w ++ panel ∷ []) (drop (k + 1) (records_in frame)))) (sym (p ∙ panel_alike m form (record_in frame k)))

pub loop-k-init : goal.loop-k-init
loop-k-init c = (ap (replicate most_panels) c.blank_panel-blank.ensures ∙ none-held, refl, none-marked id_count, refl)

pub returns-in_err-panel : goal.returns-in_err-panel
returns-in_err-panel c =
    let p = err_from_is_err_and c.from_residual.result c.from_residual.ensures.1 in
    let read = sym c.in_err-panel.was ∙ c.panel_of.ensures ∙ ap₂ (λ (f : Form) (bytes : List ℕ). panel_in f (marked c.loop-k.seen) bytes) c.form-form.ensures c.record.ensures in
    let here : c.loop-k.k < count_of c.args.frame.now = omega (arith, c.count-count.ensures.value) in
    rw (p.1, p.2) (sym (ap in_table (with_record _ _ c.loop-k.k here c.loop-k.invariant.2 c.loop-k.invariant.3 read)))

pub loop-k-preserved : goal.loop-k-preserved
loop-k-preserved c =
    let k = c.loop-k.k in
    let p = c.in_ok-panel.panel in
    let frame = c.args.frame.now in
    let read = sym c.in_ok-panel.was ∙ c.panel_of.ensures ∙ ap₂ (λ (f : Form) (bytes : List ℕ). panel_in f (marked c.loop-k.seen) bytes) c.form-form.ensures c.record.ensures in
    let here : k < count_of frame = omega (arith, c.count-count.ensures.value) in
    let few : k < most_panels = omega (arith, c.count-count.ensures.few) in
    let (held, more) = one-held c.loop-k.places k p few c.loop-k.invariant.0 in (
      held,
      length-set c.loop-k.seen p.id.0 true ∙ c.loop-k.invariant.1,
      subst (Marks (set c.loop-k.seen p.id.0 true)) (sym more) (one_more p c.loop-k.invariant.2 (omega (arith, c.loop-k.invariant.1))),
      with_record _ _ k here c.loop-k.invariant.2 c.loop-k.invariant.3 read
          ∙ ap (λ (w : Wall). read_records (form_of frame) w (drop (k + 1) (records_in frame))) (sym more),
    )

pub returns : goal.returns
unfolding read_records records_in
returns c =
    let frame = c.args.frame.now in
    let end : c.loop-k.k ≡ c.count-count.result = omega arith in
    let all : c.loop-k.k ≡ length (records_in frame) = omega (arith, c.count-count.ensures.value, length-each (record_in frame) (count_of frame)) in
    let none : drop c.loop-k.k (records_in frame) ≡ [] = rw all (drop-length (records_in frame)) in
    let table = c.table_of.ensures ∙ ap (λ (n : ℕ). table_of (take n c.loop-k.places)) (sym end) in
    ap {B = Result Table Refusal} (λ (t : Table). Ok t) table
    ∙ sym (ap in_table (c.loop-k.invariant.3 ∙ ap (read_records (form_of frame) (take c.loop-k.k c.loop-k.places)) none))
