-- The numbers and the buffers are those of the definition, on a refusal and otherwise. Assumes nothing.
use mathlib.Core.Path.{sym, ap, ◌∙◌}
use mathlib.Core.List.{List}
use Prim.Native.Nat.{ℕ}
use Rattle.std.proofs.lemmas.Result.{err_from_is_err_and}
use Rattle.packet.specs.declared.Edition.{Edition}
use Rattle.packet.specs.Packet.{longest}
use Rattle.panels.specs.Wall.{Wall}
use Rattle.undivarro.specs.declared.Refused.{Refused}
use Rattle.undivarro.specs.Calls.{After, after_burst}
use Rattle.undivarro.proofs.Calls.{formed_read, first_room, second_room, by_number, line_refused_by, line_taken}
use Rattle.undivarro.proofs.play_on.Goals as goal

-- what comes of a wall
abbrev then : (burst answer out : List ℕ) → Edition → Wall → After
then burst answer out e w = after_burst e w burst answer out

pub has_room-requires : goal.has_room-requires
has_room-requires c = formed_read _ (sym c.read_image.ensures ∙ c.in_ok-table.was)

pub returns-in_err-table : goal.returns-in_err-table
returns-in_err-table c =
    let a = c.args in
    let p = err_from_is_err_and c.from_residual.result c.from_residual.ensures.1 in
    let e = line_refused_by a.number longest a.image.now (then a.burst.now a.answer.now a.out.now) a.answer.now a.out.now (Refused.Setup _) (sym c.read_image.ensures ∙ c.in_err-table.was) in
    record { value = rw (p.1, p.2) (ap (λ (r : After). r.outcome) e); answer_after = ap (λ (r : After). r.answer) e; out_after = ap (λ (r : After). r.out) e }

pub returns-then-not-has_room : goal.returns-then-not-has_room
returns-then-not-has_room c =
    let a = c.args in
    let e = line_refused_by a.number longest a.image.now (then a.burst.now a.answer.now a.out.now) a.answer.now a.out.now Refused.NoRoom
    (_, sym c.read_image.ensures ∙ c.in_ok-table.was, sym c.has_room.ensures ∙ c.if-not-has_room.true) in
    record { value = ap (λ (r : After). r.outcome) e; answer_after = ap (λ (r : After). r.answer) e; out_after = ap (λ (r : After). r.out) e }

pub returns-in_default : goal.returns-in_default
returns-in_default c =
    let a = c.args in
    let e = line_refused_by a.number longest a.image.now (then a.burst.now a.answer.now a.out.now) a.answer.now a.out.now Refused.UnknownEdition
    (_, sym c.read_image.ensures ∙ c.in_ok-table.was, sym c.has_room.ensures ∙ c.if-not-has_room.false, by_number _ _ (sym c.try_from.ensures ∙ c.in_default.is)) in
    record { value = ap (λ (r : After). r.outcome) e; answer_after = ap (λ (r : After). r.answer) e; out_after = ap (λ (r : After). r.out) e }

pub played-requires : goal.played-requires
played-requires c =
    let room = sym c.has_room.ensures ∙ c.if-not-has_room.false in
    (formed_read _ (sym c.read_image.ensures ∙ c.in_ok-table.was), first_room _ _ _ _ room, second_room _ _ _ _ room)

pub returns : goal.returns
returns c =
    let a = c.args in
    let e = line_taken a.number longest a.image.now (then a.burst.now a.answer.now a.out.now) a.answer.now a.out.now (sym c.read_image.ensures ∙ c.in_ok-table.was)
    (sym c.has_room.ensures ∙ c.if-not-has_room.false) (by_number _ _ (sym c.try_from.ensures ∙ c.in-Ok.is)) in
    record {
      value = c.played.ensures.value ∙ ap (λ (r : After). r.outcome) e;
      answer_after = c.played.ensures.answer_after ∙ ap (λ (r : After). r.answer) e;
      out_after = c.played.ensures.out_after ∙ ap (λ (r : After). r.out) e;
    }
