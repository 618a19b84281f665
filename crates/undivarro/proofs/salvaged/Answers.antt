-- The numbers and the buffers are those of the definition, on a refusal and otherwise. Assumes nothing.
use mathlib.Core.Path.{sym, ap, ap₂, ◌∙◌}
use mathlib.Core.List.{List}
use Prim.Native.Nat.{ℕ, ◌≤◌}
use lib.ListN.{length}
use native.Mathlib.Omega.{arith}
use Rattle.std.proofs.lemmas.Result.{err_from_is_err_and}
use Rattle.panels.specs.Wall.{Wall}
use Rattle.image_forms.specs.declared.Form.{Form}
use Rattle.std.specs.Prelude.{None}
use Rattle.image_write.specs.Written.{setup_of}
use Rattle.image_write.proofs.Losing.{two_holds}
use Rattle.undivarro.specs.declared.Outcome.{Outcome}
use Rattle.image_salvage.specs.Salvaged.{lines_cap}
use Rattle.undivarro.specs.Calls.{After, given}
use Rattle.undivarro.proofs.Calls.{first_room, second_room}
use Rattle.image_salvage.proofs.Sound.{table_formed}
use Rattle.undivarro.proofs.Salvages.{wall-kept, told_short, text_long, front_told, count-told, salvage-refused, salvage-no-room, salvage-given}
use Rattle.undivarro.proofs.salvaged.Goals as goal

pub has_room-requires : goal.has_room-requires
has_room-requires c = table_formed c.args.image.now (sym c.salvage.ensures.value ∙ c.in_ok-kept.was)

pub returns-in_err-kept : goal.returns-in_err-kept
returns-in_err-kept c =
    let a = c.args in
    let p = err_from_is_err_and c.from_residual.result c.from_residual.ensures.1 in
    let e = salvage-refused a.image.now a.lines.now a.out.now (sym c.salvage.ensures.value ∙ c.in_err-kept.was) in
    record { value = rw (p.1, p.2) (ap (λ (r : After). r.outcome) e); lines_after = ap (λ (r : After). r.answer) e; out_after = ap (λ (r : After). r.out) e }

pub returns-then-not-has_room : goal.returns-then-not-has_room
returns-then-not-has_room c =
    let a = c.args in
    let e = salvage-no-room a.image.now (sym c.salvage.ensures.value ∙ c.in_ok-kept.was) a.lines.now a.out.now (sym c.has_room.ensures ∙ c.if-not-has_room.true) in
    record { value = ap (λ (r : After). r.outcome) e; lines_after = ap (λ (r : After). r.answer) e; out_after = ap (λ (r : After). r.out) e }

pub put_text-requires : goal.put_text-requires
put_text-requires c =
    let image = c.args.image.now in
    let is = sym c.salvage.ensures.value ∙ c.in_ok-kept.was in
    let lines : lines_cap ≤ length c.args.lines.now = first_room _ _ _ _ (sym c.has_room.ensures ∙ c.if-not-has_room.false) in
    let short = told_short image is in
    (omega (arith, short, text_long image is _ _ c.salvage.ensures.lines_after (omega arith)), omega (arith, short, lines))

pub put_setup-written-requires : goal.put_setup-written-requires
put_setup-written-requires c =
    (table_formed c.args.image.now (sym c.salvage.ensures.value ∙ c.in_ok-kept.was), two_holds _, second_room _ _ _ _ (sym c.has_room.ensures ∙ c.if-not-has_room.false))

pub returns : goal.returns
returns c =
    let a = c.args in
    let image = a.image.now in
    let is = sym c.salvage.ensures.value ∙ c.in_ok-kept.was in
    let told = front_told image is _ _ c.salvage.ensures.lines_after in
    let all =
    ap₂ (λ (t : List ℕ) (w : Wall). given t (setup_of Form.Two w) None a.lines.now a.out.now) told (wall-kept image is)
    ∙ salvage-given image is a.lines.now a.out.now (sym c.has_room.ensures ∙ c.if-not-has_room.false)
    in record {
      value = ap₂ {C = Outcome} (λ (n m : ℕ). record { refusal = 0; answered = n; written = m; damage = 0 }) (count-told image is _ _ c.salvage.ensures.lines_after) c.put_setup-written.ensures.value
          ∙ ap (λ (r : After). r.outcome) all;
      lines_after = c.put_text.ensures ∙ ap (λ (r : After). r.answer) all;
      out_after = c.put_setup-written.ensures.out_after ∙ ap (λ (r : After). r.out) all;
    }
