use mathlib.Core.Path.{◌≡◌, refl, sym, ap, ◌∙◌}
use mathlib.Core.Bool.{Bool, true, false, cond}
use mathlib.Core.List.{List}
use Prim.Native.Nat.{ℕ, ◌+◌, ◌-◌, ◌≤◌, ◌<◌}
use native.Mathlib.Omega.{arith}
use borrow.Author.Tests.{le-ltb, lt-ltb, eq-eqb, ne_eqb}
use lib.Dec.{eqb}
use lib.ListN.{length, get_or, take, drop}
use Rattle.settings.specs.declared.Profile.{Profile}
use Rattle.std.proofs.Common.{Some}
use Rattle.codes.specs.declared.Code.{Code}
use Rattle.settings.specs.Settings.{byte_count}
use Rattle.codes.specs.Found.{field_by}
use Rattle.models.specs.Models.{allowed_for, model_in}
use Rattle.settings.proofs.Laws.{place_fits}
use Rattle.image_forms.specs.declared.Form.{Form}
use Rattle.image_record.specs.declared.Step.{Step}
use Rattle.image_record.specs.Field.{values_in, misplaced, step_at}
use Rattle.image_record.proofs.fields.step_at.Goals as goal

module _ (form : Form) (profile : Profile) (seen : List Bool) (values left : List ℕ) where
  module _ (row : ℕ) (n : eqb (length left) 0 ≡ false) (found : field_by (get_or left 0 0) ≡ Some (Code.Set row)) where
    when_misplaced : misplaced form seen row ≡ true → Step.Broken ≡ step_at form profile seen values left
    unfolding step_at
    when_misplaced s = simp (n, found) (rw s)

    module _ (s : misplaced form seen row ≡ false) where
      when_cut : length left < 2 + byte_count row → Step.Broken ≡ step_at form profile seen values left
      unfolding step_at
      when_cut h = simp (n, found) (rw (s, lt-ltb (length left) (2 + byte_count row) h))

      module _ (h : 2 + byte_count row ≤ length left) where
        when_other : (get_or left 1 0 ≡ byte_count row → ⊥) → Step.Broken ≡ step_at form profile seen values left
        unfolding step_at
        when_other d = simp (n, found) (rw (s, le-ltb (length left) (2 + byte_count row) h, ne_eqb (get_or left 1 0) (byte_count row) d))

        when_whole : get_or left 1 0 ≡ byte_count row → (t : Bool) → allowed_for (model_in profile values) row (values_in row left) ≡ t
            → cond t (Step.Field row) (Step.NotAllowed row) ≡ step_at form profile seen values left
        unfolding step_at
        when_whole d t a = simp (n, found) (rw (s, le-ltb (length left) (2 + byte_count row) h, eq-eqb (get_or left 1 0) (byte_count row) d, a))

pub returns-then-n-eq0 : goal.returns-then-n-eq0
unfolding step_at
returns-then-n-eq0 c = simp (eq-eqb _ _ c.if-n-eq0.true)

pub returns-in_default : goal.returns-in_default
unfolding step_at
returns-in_default c = rw (ne_eqb _ _ c.if-n-eq0.false, ← c.field_by-found.ensures, c.in_default.is) refl

pub returns-in_default-code : goal.returns-in_default-code
unfolding step_at
returns-in_default-code c = rw (ne_eqb _ _ c.if-n-eq0.false, ← c.field_by-found.ensures, c.in-Some.is, c.in_default-code.is) refl

pub returns-then-is_misplaced : goal.returns-then-is_misplaced
returns-then-is_misplaced c =
    let some : eqb (length c.args.left.now) 0 ≡ false = ne_eqb _ _ c.if-n-eq0.false in
    let found : let a = c.args in field_by (get_or a.left.now 0 0) ≡ Some (Code.Set c.in-Set.row) = sym c.field_by-found.ensures ∙ c.in-Some.is ∙ ap Some c.in-Set.is in
    let here : (t : Bool) → c.is_misplaced.result ≡ t → let a = c.args in misplaced a.form a.seen.now c.in-Set.row ≡ t = λ t e. sym c.is_misplaced.ensures ∙ e in
    when_misplaced _ _ _ _ _ _ some found (here true c.if-is_misplaced.true)

pub overflow_add-count : goal.overflow_add-count
overflow_add-count c = omega (arith, place_fits c.in-Set.row)

pub returns-then-n-count : goal.returns-then-n-count
returns-then-n-count c =
    let some : eqb (length c.args.left.now) 0 ≡ false = ne_eqb _ _ c.if-n-eq0.false in
    let found : let a = c.args in field_by (get_or a.left.now 0 0) ≡ Some (Code.Set c.in-Set.row) = sym c.field_by-found.ensures ∙ c.in-Some.is ∙ ap Some c.in-Set.is in
    let here : (t : Bool) → c.is_misplaced.result ≡ t → let a = c.args in misplaced a.form a.seen.now c.in-Set.row ≡ t = λ t e. sym c.is_misplaced.ensures ∙ e in
    when_cut _ _ _ _ _ _ some found (here false c.if-is_misplaced.false)
    (omega (arith, c.if-n-count.true, c.byte_count-count.ensures.count))

pub returns-then-left-count : goal.returns-then-left-count
returns-then-left-count c =
    let some : eqb (length c.args.left.now) 0 ≡ false = ne_eqb _ _ c.if-n-eq0.false in
    let found : let a = c.args in field_by (get_or a.left.now 0 0) ≡ Some (Code.Set c.in-Set.row) = sym c.field_by-found.ensures ∙ c.in-Some.is ∙ ap Some c.in-Set.is in
    let here : (t : Bool) → c.is_misplaced.result ≡ t → let a = c.args in misplaced a.form a.seen.now c.in-Set.row ≡ t = λ t e. sym c.is_misplaced.ensures ∙ e in
    let n = c.byte_count-count.ensures.count in
    when_other _ _ _ _ _ _ some found (here false c.if-is_misplaced.false)
    (omega (arith, c.if-n-count.false)) (λ e. c.if-left-count.true (e ∙ sym n))

pub returns-then-not-is_allowed : goal.returns-then-not-is_allowed
returns-then-not-is_allowed c =
    let some : eqb (length c.args.left.now) 0 ≡ false = ne_eqb _ _ c.if-n-eq0.false in
    let found : let a = c.args in field_by (get_or a.left.now 0 0) ≡ Some (Code.Set c.in-Set.row) = sym c.field_by-found.ensures ∙ c.in-Some.is ∙ ap Some c.in-Set.is in
    let here : (t : Bool) → c.is_misplaced.result ≡ t → let a = c.args in misplaced a.form a.seen.now c.in-Set.row ≡ t = λ t e. sym c.is_misplaced.ensures ∙ e in
    let whole : (t : Bool) → c.is_allowed.result ≡ t → let row = c.in-Set.row in let a = c.args in cond t (Step.Field row) (Step.NotAllowed row) ≡ step_at a.form a.profile a.seen.now a.values.now a.left.now = λ t e. let a = c.args in let row = c.in-Set.row in let n = c.byte_count-count.ensures.count in let m : 2 + c.byte_count-count.result - 2 ≡ byte_count row = omega arith in let model = model_in a.profile a.values.now in let answer = c.is_allowed.ensures ∙ ap (λ (k : ℕ). allowed_for model row (take k (drop 2 a.left.now))) m in when_whole _ _ _ _ _ _ some found (here false c.if-is_misplaced.false) (omega (arith, c.if-n-count.false)) (c.if-left-count.false ∙ n) t (sym answer ∙ e) in
    whole false (c.if-not-is_allowed.true)

pub returns : goal.returns
returns c =
    let some : eqb (length c.args.left.now) 0 ≡ false = ne_eqb _ _ c.if-n-eq0.false in
    let found : let a = c.args in field_by (get_or a.left.now 0 0) ≡ Some (Code.Set c.in-Set.row) = sym c.field_by-found.ensures ∙ c.in-Some.is ∙ ap Some c.in-Set.is in
    let here : (t : Bool) → c.is_misplaced.result ≡ t → let a = c.args in misplaced a.form a.seen.now c.in-Set.row ≡ t = λ t e. sym c.is_misplaced.ensures ∙ e in
    let whole : (t : Bool) → c.is_allowed.result ≡ t → let row = c.in-Set.row in let a = c.args in cond t (Step.Field row) (Step.NotAllowed row) ≡ step_at a.form a.profile a.seen.now a.values.now a.left.now = λ t e. let a = c.args in let row = c.in-Set.row in let n = c.byte_count-count.ensures.count in let m : 2 + c.byte_count-count.result - 2 ≡ byte_count row = omega arith in let model = model_in a.profile a.values.now in let answer = c.is_allowed.ensures ∙ ap (λ (k : ℕ). allowed_for model row (take k (drop 2 a.left.now))) m in when_whole _ _ _ _ _ _ some found (here false c.if-is_misplaced.false) (omega (arith, c.if-n-count.false)) (c.if-left-count.false ∙ n) t (sym answer ∙ e) in
    whole true (c.if-not-is_allowed.false)
