use mathlib.Core.Path.{◌≡◌}
use native.Mathlib.Omega.{arith}
use Rattle.std.specs.Prelude.{Some, None}
use Rattle.std.proofs.lemmas.Result.{err_from_is_err_and}
use Rattle.table_calls.specs.declared.Refusal.{Refusal}
use Rattle.panels.specs.Wall.{panels_of, place_of}
use Rattle.table_calls.specs.Calls.{removed}
use Rattle.panels.proofs.Laws.{place_there}
use Rattle.table_calls.proofs.remove.Goals as goal

pub returns-in_err-k : goal.returns-in_err-k
unfolding removed
returns-in_err-k c =
    let p = err_from_is_err_and c.from_residual.result c.from_residual.ensures.1 in
    let nowhere : let a = c.args in place_of a.id (panels_of a.t.now) ≡ None = grind (arith, c.place_of.ensures, c.ok_or.ensures.value, c.in_err-k.was) in
    let why : c.in_err-k.field-0.0 ≡ Refusal.NoPanel = grind (arith, c.place_of.ensures, c.ok_or.ensures.value, c.in_err-k.was) in
    record { answer = rw (p.1, p.2, why, nowhere); table = rw nowhere c.requires.held }

pub closed_up-requires : goal.closed_up-requires
closed_up-requires c =
    let at : let a = c.args in place_of a.id (panels_of a.t.now) ≡ Some c.in_ok-k.k = grind (arith, c.place_of.ensures, c.ok_or.ensures.value, c.in_ok-k.was) in
    (c.requires, (place_there _ _ _ at).0)

pub returns-clause-table : goal.returns-clause-table
unfolding removed
returns-clause-table c =
    let at : let a = c.args in place_of a.id (panels_of a.t.now) ≡ Some c.in_ok-k.k = grind (arith, c.place_of.ensures, c.ok_or.ensures.value, c.in_ok-k.was) in
    rw (at, c.closed_up.ensures)
