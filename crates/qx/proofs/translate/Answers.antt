use mathlib.Core.Path.{◌≡◌, sym, ◌∙◌}
use Rattle.std.specs.Prelude.{Some}
use Rattle.std.proofs.lemmas.Result.{err_from_is_err_and}
use Rattle.qx.specs.Asked.{asked_of}
use Rattle.qx.proofs.Translations.{small, no_request, not_carried, written}
use Rattle.qx.proofs.translate.Goals as goal

pub returns-then-out-lt-LONGEST : goal.returns-then-out-lt-LONGEST
returns-then-out-lt-LONGEST c =
    let a = c.args in
    let both = small a.out.now a.request c.if-out-lt-LONGEST.true in
    record { value = both.0; out_after = both.1 }

pub returns-then-not-is_request : goal.returns-then-not-is_request
returns-then-not-is_request c =
    let a = c.args in
    let both = no_request a.out.now a.request c.if-out-lt-LONGEST.false (sym c.is_request.ensures ∙ c.if-not-is_request.true) in
    record { value = both.0; out_after = both.1 }

pub returns-in_err-asked : goal.returns-in_err-asked
returns-in_err-asked c =
    let a = c.args in
    let p = err_from_is_err_and c.from_residual.result c.from_residual.ensures.1 in
    let both = not_carried a.out.now a.request _ c.if-out-lt-LONGEST.false (sym c.is_request.ensures ∙ c.if-not-is_request.false) c.asked_of.ensures (sym c.ok_or.ensures.value ∙ c.in_err-asked.was) in
    record { value = p.1 ∙ rw p.2 both.0; out_after = both.1 }

pub returns : goal.returns
returns c =
    let a = c.args in
    let asks : Some c.in_ok-asked.asked ≡ asked_of a.request = sym (rw c.in_ok-asked.was at c.ok_or.ensures.ok_part) ∙ c.asked_of.ensures in
    let both = written a.out.now a.request _ c.if-out-lt-LONGEST.false (sym c.is_request.ensures ∙ c.if-not-is_request.false) asks in
    record { value = rw (c.told.ensures a.request.id) both.0; out_after = c.put_all.ensures ∙ both.1 }
