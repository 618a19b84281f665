use mathlib.Core.Path.{◌≡◌, sym, ap, subst, ◌∙◌}
use mathlib.Core.Bool.{Bool, false}
use mathlib.Core.List.{List}
use Prim.Native.Nat.{ℕ, ◌+◌, ◌-◌}
use native.Mathlib.Omega.{arith}
use lib.ListN.{length, take, drop, replicate, length-drop}
use lib.Seq.{take_all}
use Rattle.settings.specs.declared.Profile.{Profile}
use Rattle.settings.specs.Settings.{row_count}
use Rattle.image_forms.specs.declared.Form.{Form}
use Rattle.image_record.specs.declared.Step.{Step}
use Rattle.image_record.specs.declared.Stop.{Stop}
use Rattle.image_record.specs.Run.{Run, run_from, stop_of}
use Rattle.image_salvage.proofs.Loop.{Turn, begins, used_up, at_end, at_field, broken_inside, passed_inside, broken_over, passed_turn}
use Rattle.image_salvage.proofs.fields.kept.Goals as goal

-- The run over the fields that are left, and where it stopped.
record Ran (form : Form) (profile : Profile) (bytes : List ℕ) (values : List ℕ) (seen : List Bool) (at : ℕ) (stop : Stop) (seen_new : List Bool) (values_new : List ℕ) : Type 0 where
  value : stop ≡ stop_of (drop at bytes) (run_from form profile seen values (drop at bytes))
  there : at + stop.taken ≡ at + (length (drop at bytes) - length (run_from form profile seen values (drop at bytes)).left)
  seen_after : seen_new ≡ (run_from form profile seen values (drop at bytes)).seen
  values_after : values_new ≡ (run_from form profile seen values (drop at bytes)).values

ran : {form : Form} {profile : Profile} {number : ℕ} {bytes first : List ℕ} {from : ℕ} {lines values : List ℕ} {seen : List Bool} {at next k : ℕ}
    → Turn form profile number bytes first from lines values seen at next k
    → {stop : Stop} {seen_new : List Bool} {values_new : List ℕ}
    → let l = take (length bytes - at) (drop at bytes) in
    stop ≡ stop_of l (run_from form profile seen values l)
    → seen_new ≡ (run_from form profile seen values l).seen
    → values_new ≡ (run_from form profile seen values l).values
    → Ran form profile bytes values seen at stop seen_new values_new
ran {form} {profile} {bytes = bytes} {values = values} {seen = seen} {at = at} t value seen_after values_after =
    let all : take (length bytes - at) (drop at bytes) ≡ drop at bytes = take_all (length bytes - at) (drop at bytes) (rw length-drop (omega arith)) in
    let is = value ∙ ap (λ (l : List ℕ). stop_of l (run_from form profile seen values l)) all in
    let same = ap (run_from form profile seen values) all in
    record {
      value = is;
      there = ap (λ (s : Stop). at + s.taken) is;
      seen_after = seen_after ∙ ap (λ (r : Run). r.seen) same;
      values_after = values_after ∙ ap (λ (r : Run). r.values) same;
    }

stopped : {form : Form} {profile : Profile} {bytes values : List ℕ} {seen : List Bool} {at : ℕ} {stop : Stop} {seen_new : List Bool} {values_new : List ℕ}
    → Ran form profile bytes values seen at stop seen_new values_new → {s : Step} → stop.step ≡ s → (run_from form profile seen values (drop at bytes)).step ≡ s
stopped r e = ap (λ (s : Stop). s.step) (sym r.value) ∙ e

pub loop-k-init : goal.loop-k-init
loop-k-init c =
    let a = c.args in
    subst (λ (vs : List ℕ). Turn a.form a.profile a.number a.bytes.now a.lines.now a.from a.lines.now vs (replicate row_count false) 0 a.from 0)
    (sym c.fresh-values.ensures) (begins a.form a.profile a.number a.bytes.now a.lines.now a.from c.requires)

pub bounds-bytes-at : goal.bounds-bytes-at
bounds-bytes-at c =
    let t = c.loop-k.invariant in
    let e = c.take_fields-stop.ensures in
    let r = ran t e.value e.seen_after e.values_after in
    omega (arith, r.there, passed_inside _ _ _ _ _ _ t c.loop-k-test.true (stopped r c.in-NotAllowed.is))

pub overflow_add-at-in-NotAllowed-2 : goal.overflow_add-at-in-NotAllowed-2
overflow_add-at-in-NotAllowed-2 c =
    let t = c.loop-k.invariant in
    let e = c.take_fields-stop.ensures in
    let r = ran t e.value e.seen_after e.values_after in
    omega (arith, c.byte_count.ensures.count, r.there, passed_inside _ _ _ _ _ _ t c.loop-k-test.true (stopped r c.in-NotAllowed.is))

pub loop-k-preserved : goal.loop-k-preserved
loop-k-preserved c =
    let t = c.loop-k.invariant in
    let e = c.take_fields-stop.ensures in
    let r = ran t e.value e.seen_after e.values_after in
    rw c.index.ensures.number (passed_turn _ _ _ _ _ _ t c.loop-k-test.true r.there (stopped r c.in-NotAllowed.is) c.tell-next.ensures.lines_after c.tell-next.ensures.value c.byte_count.ensures.count
    r.values_after r.seen_after)

pub bounds-bytes-at-in-Broken : goal.bounds-bytes-at-in-Broken
bounds-bytes-at-in-Broken c =
    let t = c.loop-k.invariant in
    let e = c.take_fields-stop.ensures in
    let r = ran t e.value e.seen_after e.values_after in
    rw r.there (broken_inside _ _ _ _ _ _ t c.loop-k-test.true (stopped r c.in-Broken.is))

pub returns-in-Broken : goal.returns-in-Broken
returns-in-Broken c =
    let t = c.loop-k.invariant in
    let e = c.take_fields-stop.ensures in
    let r = ran t e.value e.seen_after e.values_after in
    let over = broken_over _ _ _ _ _ _ t c.loop-k-test.true r.there (stopped r c.in-Broken.is) c.tell-next-in-Broken.ensures.lines_after c.tell-next-in-Broken.ensures.value in
    record { values_value = r.values_after ∙ over.kept; next_value = over.place; lines_after = over.laid }

pub returns-in-Field : goal.returns-in-Field
returns-in-Field c =
    let t = c.loop-k.invariant in
    let e = c.take_fields-stop.ensures in
    let r = ran t e.value e.seen_after e.values_after in
    let over = at_field _ _ _ _ _ _ t c.loop-k-test.true _ (stopped r c.in-Field.is) in
    record { values_value = r.values_after ∙ over.kept; next_value = over.place; lines_after = over.laid }

pub returns-in-End : goal.returns-in-End
returns-in-End c =
    let t = c.loop-k.invariant in
    let e = c.take_fields-stop.ensures in
    let r = ran t e.value e.seen_after e.values_after in
    let over = at_end _ _ _ _ _ _ t c.loop-k-test.true (stopped r c.in-End.is) in
    record { values_value = r.values_after ∙ over.kept; next_value = over.place; lines_after = over.laid }

pub returns : goal.returns
returns c =
    let over = used_up _ _ _ _ _ _ c.loop-k.invariant (omega arith) in
    record { values_value = over.kept; next_value = over.place; lines_after = over.laid }
