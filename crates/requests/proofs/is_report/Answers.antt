use mathlib.Core.Path.{◌≡◌, refl, sym, ap, ◌∙◌}
use mathlib.Core.Bool.{false}
use mathlib.Core.List.{List, [], ◌∷◌}
use Prim.Native.Nat.{ℕ, ◌<◌}
use native.Mathlib.Omega.{arith}
use borrow.Author.Tests.{eq-eqb, ne_eqb}
use lib.ListN.{length}
use Rattle.std.proofs.lemmas.List.{take_rest}
use Rattle.models.specs.declared.Model.{Model}
use Rattle.models.specs.Models.{allowed_for}
use Rattle.requests.specs.Said.{is_report}
use Rattle.requests.proofs.Words.{report_some}
use Rattle.requests.proofs.is_report.Goals as goal

-- A report has its row's get code, and behind it values that the row allows. Assumes nothing.
none : (model : Model) (k : ℕ) (d : List ℕ) → length d < 1 → false ≡ is_report model k d
unfolding is_report
none model k [] e = refl
none model k (x ∷ d) e = absurd (omega arith)

pub returns-in_default : goal.returns-in_default
returns-in_default c = none _ _ _ c.in_default.len_below

pub returns-then-code-get_code : goal.returns-then-code-get_code
returns-then-code-get_code c =
    let a = c.args in
    let code = eq-eqb _ _ (c.if-code-get_code.true ∙ c.get_code.ensures) in
    c.allowed.ensures ∙ ap (allowed_for a.model a.row) (take_rest a.d.now 1) ∙ sym (report_some a.model a.row a.d.now (omega arith) ∙ rw code)

pub returns-else-code-get_code : goal.returns-else-code-get_code
returns-else-code-get_code c =
    let a = c.args in
    ne_eqb _ _ c.if-code-get_code.false
    ∙ sym (report_some a.model a.row a.d.now (omega arith) ∙ simp (ne_eqb _ _ (λ e. c.if-code-get_code.false (e ∙ sym c.get_code.ensures))))
