-- The numbers and the buffer are those of the definition, on a refusal and otherwise. Assumes nothing.
use mathlib.Core.Path.{sym, ap, ◌∙◌}
use mathlib.Core.List.{List, []}
use Prim.Native.Nat.{ℕ}
use Rattle.std.proofs.lemmas.Result.{err_from_is_err_and}
use Rattle.std.specs.Prelude.{None}
use Rattle.panels.specs.Wall.{Wall}
use Rattle.undivarro.specs.declared.Outcome.{Outcome}
use Rattle.image_forms.specs.declared.Form.{Form}
use Rattle.image_write.specs.Written.{setup_of}
use Rattle.undivarro.specs.Calls.{After, given, after_move}
use Rattle.undivarro.proofs.Calls.{formed_read, second_room, setup_refused, setup_lost, setup_no_room, setup_taken}
use Rattle.undivarro.proofs.moved.Goals as goal

abbrev rewritten : Form → List ℕ → Wall → After
rewritten form out w = given [] (setup_of form w) None [] out

pub loses_nothing-requires : goal.loses_nothing-requires
loses_nothing-requires c = formed_read _ (sym c.read_image.ensures ∙ c.in_ok-table.was)

pub has_room-requires : goal.has_room-requires
has_room-requires c = formed_read _ (sym c.read_image.ensures ∙ c.in_ok-table.was)

pub returns-in_err-table : goal.returns-in_err-table
unfolding after_move
returns-in_err-table c =
    let a = c.args in
    let p = err_from_is_err_and c.from_residual.result c.from_residual.ensures.1 in
    let e = setup_refused a.form 0 a.image.now (rewritten a.form a.out.now) [] a.out.now (sym c.read_image.ensures ∙ c.in_err-table.was) in
    record { value = rw (p.1, p.2) (ap (λ (r : After). r.outcome) e); out_after = ap (λ (r : After). r.out) e }

pub returns-then-not-loses_nothing : goal.returns-then-not-loses_nothing
unfolding after_move
returns-then-not-loses_nothing c =
    let a = c.args in
    let e = setup_lost a.form 0 a.image.now (rewritten a.form a.out.now) [] a.out.now (sym c.read_image.ensures ∙ c.in_ok-table.was) (sym c.loses_nothing.ensures ∙ c.if-not-loses_nothing.true) in
    record { value = ap (λ (r : After). r.outcome) e; out_after = ap (λ (r : After). r.out) e }

pub returns-then-not-has_room : goal.returns-then-not-has_room
unfolding after_move
returns-then-not-has_room c =
    let a = c.args in
    let e = setup_no_room a.form 0 a.image.now (rewritten a.form a.out.now) [] a.out.now (sym c.read_image.ensures ∙ c.in_ok-table.was)
    (sym c.loses_nothing.ensures ∙ c.if-not-loses_nothing.false) (sym c.has_room.ensures ∙ c.if-not-has_room.true) in
    record { value = ap (λ (r : After). r.outcome) e; out_after = ap (λ (r : After). r.out) e }

pub put_setup-written-requires : goal.put_setup-written-requires
put_setup-written-requires c = (
  formed_read _ (sym c.read_image.ensures ∙ c.in_ok-table.was),
  sym c.loses_nothing.ensures ∙ c.if-not-loses_nothing.false,
  second_room 0 0 _ _ (sym c.has_room.ensures ∙ c.if-not-has_room.false),
)

pub returns : goal.returns
unfolding after_move
returns c =
    let a = c.args in
    let e = setup_taken a.form 0 a.image.now (rewritten a.form a.out.now) [] a.out.now (sym c.read_image.ensures ∙ c.in_ok-table.was)
    (sym c.loses_nothing.ensures ∙ c.if-not-loses_nothing.false) (sym c.has_room.ensures ∙ c.if-not-has_room.false) in
    record {
      value = ap {B = Outcome} (λ (m : ℕ). record { refusal = 0; answered = 0; written = m; damage = 0 }) c.put_setup-written.ensures.value ∙ ap (λ (r : After). r.outcome) e;
      out_after = c.put_setup-written.ensures.out_after ∙ ap (λ (r : After). r.out) e;
    }
