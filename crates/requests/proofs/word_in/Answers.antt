use mathlib.Core.Path.{◌≡◌, sym, ap, ◌∙◌}
use mathlib.Core.Bool.{Bool, false}
use mathlib.Core.List.{List}
use Prim.Native.Nat.{ℕ}
use Rattle.models.specs.declared.Model.{Model}
use Rattle.std.proofs.Common.{Option, Some}
use Rattle.codes.specs.declared.Code.{Code}
use Rattle.codes.specs.Found.{found_by}
use Rattle.packet.specs.declared.Control.{Control}
use Rattle.requests.specs.Said.{is_control, ended_by, word_in}
use Rattle.requests.proofs.Words.{word_found}
use Rattle.requests.proofs.word_in.Goals as goal

-- Neither NACK nor NAV, so that the code tells. Assumes nothing.
by_code : (model : Model) (code : ℕ) (d : List ℕ) {nack nav : Bool} {found f : Option Code} → nack ≡ is_control Control.Nack d → nack ≡ false → nav ≡ is_control Control.Nav d → nav ≡ false
    → found ≡ found_by code → found ≡ f → ended_by model f d ≡ word_in model code d
by_code model code d en n ev v ef is = sym (word_found model code d _ (sym en ∙ n) (sym ev ∙ v) (sym ef ∙ is))

pub returns-then-is_control : goal.returns-then-is_control
unfolding word_in
returns-then-is_control c = simp (sym c.if-is_control.ensures)

pub returns-then-is_control-2 : goal.returns-then-is_control-2
unfolding word_in
returns-then-is_control-2 c = simp (sym c.if-is_control.ensures, sym c.if-is_control-2.ensures)

pub returns-in-Set : goal.returns-in-Set
unfolding ended_by
returns-in-Set c =
    let a = c.args in
    let code = by_code a.model a.code a.d.now c.is_control.ensures c.if-is_control.false c.is_control-2.ensures c.if-is_control-2.false c.found_by-found.ensures (c.in-Some.is ∙ ap Some c.in-Set.is) in
    rw (← code, sym c.if-is_control-3.ensures)

pub returns-in_default-asked : goal.returns-in_default-asked
unfolding ended_by
returns-in_default-asked c =
    let a = c.args in
    let code = by_code a.model a.code a.d.now c.is_control.ensures c.if-is_control.false c.is_control-2.ensures c.if-is_control-2.false c.found_by-found.ensures (c.in-Some.is ∙ ap Some c.in-Set.is) in
    rw (← code, sym c.if-is_control-3.ensures)

pub returns-in-Get : goal.returns-in-Get
unfolding ended_by
returns-in-Get c =
    let a = c.args in
    let code = by_code a.model a.code a.d.now c.is_control.ensures c.if-is_control.false c.is_control-2.ensures c.if-is_control-2.false c.found_by-found.ensures (c.in-Some.is ∙ ap Some c.in-Get.is) in
    rw (← code, sym c.if-is_report.ensures)

pub returns-in_default-asked-2 : goal.returns-in_default-asked-2
unfolding ended_by
returns-in_default-asked-2 c =
    let a = c.args in
    let code = by_code a.model a.code a.d.now c.is_control.ensures c.if-is_control.false c.is_control-2.ensures c.if-is_control-2.false c.found_by-found.ensures (c.in-Some.is ∙ ap Some c.in-Get.is) in
    rw (← code, sym c.if-is_report.ensures)

pub returns-in_default : goal.returns-in_default
unfolding ended_by
returns-in_default c =
    let a = c.args in
    let code = by_code a.model a.code a.d.now c.is_control.ensures c.if-is_control.false c.is_control-2.ensures c.if-is_control-2.false c.found_by-found.ensures c.in_default.is in
    rw (← code)
