use mathlib.Core.Path.{◌≡◌, refl, sym, ap, ◌∙◌}
use mathlib.Core.Bool.{Bool, true}
use mathlib.Core.List.{List}
use Prim.Native.Nat.{ℕ, ◌+◌, ◌-◌, ◌≤◌}
use native.Mathlib.Nat.{add_assoc}
use native.Mathlib.Omega.{arith}
use borrow.Author.Rules.{rules}
use lib.ListN.{length, take, drop, length-take, length-drop}
use lib.Seq.{take_all, drop-drop}
use Rattle.settings.specs.Settings.{byte_count, values_with}
use Rattle.image_record.specs.declared.Step.{Step}
use Rattle.image_record.specs.declared.Stop.{Stop}
use Rattle.image_record.specs.Field.{step_at, values_in, behind}
use Rattle.image_record.specs.Run.{Run, stopped, after_step, run_from, stop_of}
use Rattle.image_record.proofs.OnTheWay.{seen_with}
use Rattle.image_record.proofs.Steps.{Stands, stands}
use Rattle.image_record.proofs.Runs.{run_step}
use Rattle.image_record.proofs.take_fields.Goals as goal

-- anything but a field that can be taken stops the run
stops : (s : Step) → ((row : ℕ) → s ≡ Step.Field row → ⊥) → (seen : List Bool) (values left : List ℕ) (more : ℕ → Run)
    → after_step s seen values left more ≡ stopped s seen values left
stops (Step.Field row) h seen values left more = absurd (h row refl)
stops (Step.NotAllowed row) h seen values left more = refl
stops Step.Broken h seen values left more = refl
stops Step.End h seen values left more = refl

pub returns-in_default : goal.returns-in_default
returns-in_default c =
    let stepped : (s : Step) → c.step_at-step.result ≡ s → let a = c.args in step_at a.form a.profile c.loop-row.seen c.loop-row.values (drop c.loop-row.at a.left.now) ≡ s = λ s e. let a = c.args in let left = a.left.now in let at = c.loop-row.at in let all = take_all (length left - at) (drop at left) (rw length-drop (omega arith)) in sym (c.step_at-step.ensures ∙ ap (step_at a.form a.profile c.loop-row.seen c.loop-row.values) all) ∙ e in
    let comes_to : (s : Step) → c.step_at-step.result ≡ s → let a = c.args in let left = drop c.loop-row.at a.left.now in let values = c.loop-row.values in run_from a.form a.profile a.seen.now a.values.now a.left.now ≡ after_step s c.loop-row.seen values left (λ row. run_from a.form a.profile (seen_with row c.loop-row.seen) (values_with row (values_in row left) values) (behind row left)) = λ s e. c.loop-row.invariant.1 ∙ run_step _ _ c.loop-row.seen c.loop-row.values _ s (stepped s e) in
    let a = c.args in
    let left = a.left.now in
    let at = c.loop-row.at in
    let run = comes_to _ refl ∙ stops c.step_at-step.result c.in_default.not-Field _ _ _ _ in
    let n : at ≡ length left - length (drop at left) = omega (arith, length-drop at left, c.loop-row.invariant.0) in
    record {
      value = ap {B = Stop} (λ (k : ℕ). record { step = c.step_at-step.result; taken = k }) n ∙ ap (stop_of left) (sym run);
      seen_after = ap (λ (r : Run). r.seen) (sym run);
      values_after = ap (λ (r : Run). r.values) (sym run);
    }

pub overflow_add-end : goal.overflow_add-end
overflow_add-end c =
    let stepped : (s : Step) → c.step_at-step.result ≡ s → let a = c.args in step_at a.form a.profile c.loop-row.seen c.loop-row.values (drop c.loop-row.at a.left.now) ≡ s = λ s e. let a = c.args in let left = a.left.now in let at = c.loop-row.at in let all = take_all (length left - at) (drop at left) (rw length-drop (omega arith)) in sym (c.step_at-step.ensures ∙ ap (step_at a.form a.profile c.loop-row.seen c.loop-row.values) all) ∙ e in
    let found : let a = c.args in Stands true a.form a.profile c.loop-row.seen c.loop-row.values (drop c.loop-row.at a.left.now) c.in-Field.row = stands _ _ true _ _ _ _ (stepped _ c.in-Field.is) in
    let room : c.loop-row.at + 2 + byte_count c.in-Field.row ≤ length c.args.left.now = omega (arith, length-drop c.loop-row.at c.args.left.now, found.whole, c.loop-row.invariant.0) in
    omega (arith, c.byte_count.ensures.count, room)

pub slice_bounds-store-end : goal.slice_bounds-store-end
slice_bounds-store-end c =
    let stepped : (s : Step) → c.step_at-step.result ≡ s → let a = c.args in step_at a.form a.profile c.loop-row.seen c.loop-row.values (drop c.loop-row.at a.left.now) ≡ s = λ s e. let a = c.args in let left = a.left.now in let at = c.loop-row.at in let all = take_all (length left - at) (drop at left) (rw length-drop (omega arith)) in sym (c.step_at-step.ensures ∙ ap (step_at a.form a.profile c.loop-row.seen c.loop-row.values) all) ∙ e in
    let found : let a = c.args in Stands true a.form a.profile c.loop-row.seen c.loop-row.values (drop c.loop-row.at a.left.now) c.in-Field.row = stands _ _ true _ _ _ _ (stepped _ c.in-Field.is) in
    let room : c.loop-row.at + 2 + byte_count c.in-Field.row ≤ length c.args.left.now = omega (arith, length-drop c.loop-row.at c.args.left.now, found.whole, c.loop-row.invariant.0) in
    omega (arith, c.byte_count.ensures.count, room)

pub store-requires : goal.store-requires
store-requires c =
    let stepped : (s : Step) → c.step_at-step.result ≡ s → let a = c.args in step_at a.form a.profile c.loop-row.seen c.loop-row.values (drop c.loop-row.at a.left.now) ≡ s = λ s e. let a = c.args in let left = a.left.now in let at = c.loop-row.at in let all = take_all (length left - at) (drop at left) (rw length-drop (omega arith)) in sym (c.step_at-step.ensures ∙ ap (step_at a.form a.profile c.loop-row.seen c.loop-row.values) all) ∙ e in
    let found : let a = c.args in Stands true a.form a.profile c.loop-row.seen c.loop-row.values (drop c.loop-row.at a.left.now) c.in-Field.row = stands _ _ true _ _ _ _ (stepped _ c.in-Field.is) in
    let room : c.loop-row.at + 2 + byte_count c.in-Field.row ≤ length c.args.left.now = omega (arith, length-drop c.loop-row.at c.args.left.now, found.whole, c.loop-row.invariant.0) in
    let part : let left = c.args.left.now in let first = c.loop-row.at + 2 in take (first + c.byte_count.result - first) (drop first left) ≡ values_in c.in-Field.row (drop c.loop-row.at left) = let n : c.loop-row.at + 2 + c.byte_count.result - (c.loop-row.at + 2) ≡ byte_count c.in-Field.row = omega (arith, c.byte_count.ensures.count) in rw (n, drop-drop 2 c.loop-row.at c.args.left.now) in
    let many : length (values_in c.in-Field.row (drop c.loop-row.at c.args.left.now)) ≡ byte_count c.in-Field.row =
    simp (length-take, length-drop) (omega (arith, room)) in
    (ap length part ∙ many, search rules)

pub loop-row-smaller : goal.loop-row-smaller
loop-row-smaller c =
    let stepped : (s : Step) → c.step_at-step.result ≡ s → let a = c.args in step_at a.form a.profile c.loop-row.seen c.loop-row.values (drop c.loop-row.at a.left.now) ≡ s = λ s e. let a = c.args in let left = a.left.now in let at = c.loop-row.at in let all = take_all (length left - at) (drop at left) (rw length-drop (omega arith)) in sym (c.step_at-step.ensures ∙ ap (step_at a.form a.profile c.loop-row.seen c.loop-row.values) all) ∙ e in
    let found : let a = c.args in Stands true a.form a.profile c.loop-row.seen c.loop-row.values (drop c.loop-row.at a.left.now) c.in-Field.row = stands _ _ true _ _ _ _ (stepped _ c.in-Field.is) in
    let room : c.loop-row.at + 2 + byte_count c.in-Field.row ≤ length c.args.left.now = omega (arith, length-drop c.loop-row.at c.args.left.now, found.whole, c.loop-row.invariant.0) in
    omega (arith, c.byte_count.ensures.count, room)

pub loop-row-preserved : goal.loop-row-preserved
loop-row-preserved c =
    let stepped : (s : Step) → c.step_at-step.result ≡ s → let a = c.args in step_at a.form a.profile c.loop-row.seen c.loop-row.values (drop c.loop-row.at a.left.now) ≡ s = λ s e. let a = c.args in let left = a.left.now in let at = c.loop-row.at in let all = take_all (length left - at) (drop at left) (rw length-drop (omega arith)) in sym (c.step_at-step.ensures ∙ ap (step_at a.form a.profile c.loop-row.seen c.loop-row.values) all) ∙ e in
    let comes_to : (s : Step) → c.step_at-step.result ≡ s → let a = c.args in let left = drop c.loop-row.at a.left.now in let values = c.loop-row.values in run_from a.form a.profile a.seen.now a.values.now a.left.now ≡ after_step s c.loop-row.seen values left (λ row. run_from a.form a.profile (seen_with row c.loop-row.seen) (values_with row (values_in row left) values) (behind row left)) = λ s e. c.loop-row.invariant.1 ∙ run_step _ _ c.loop-row.seen c.loop-row.values _ s (stepped s e) in
    let found : let a = c.args in Stands true a.form a.profile c.loop-row.seen c.loop-row.values (drop c.loop-row.at a.left.now) c.in-Field.row = stands _ _ true _ _ _ _ (stepped _ c.in-Field.is) in
    let room : c.loop-row.at + 2 + byte_count c.in-Field.row ≤ length c.args.left.now = omega (arith, length-drop c.loop-row.at c.args.left.now, found.whole, c.loop-row.invariant.0) in
    let part : let left = c.args.left.now in let first = c.loop-row.at + 2 in take (first + c.byte_count.result - first) (drop first left) ≡ values_in c.in-Field.row (drop c.loop-row.at left) = let n : c.loop-row.at + 2 + c.byte_count.result - (c.loop-row.at + 2) ≡ byte_count c.in-Field.row = omega (arith, c.byte_count.ensures.count) in rw (n, drop-drop 2 c.loop-row.at c.args.left.now) in
    let left = c.args.left.now in
    let at = c.loop-row.at in
    let row = c.in-Field.row in
    let n = c.byte_count.ensures.count in
    let taken = c.store.ensures ∙ ap (λ (vs : List ℕ). values_with row vs c.loop-row.values) part in
    let rest : behind row (drop at left) ≡ drop (at + 2 + byte_count row) left = drop-drop (2 + byte_count row) at left ∙ ap (λ (k : ℕ). drop k left) (sym (add_assoc at 2 (byte_count row))) in
    (omega (arith, n, room), comes_to (Step.Field row) c.in-Field.is ∙ rw (rest, n, taken, c.index.ensures.number))
