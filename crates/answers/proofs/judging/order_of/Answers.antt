use mathlib.Core.Path.{◌≡◌, refl, sym, ap, ◌∙◌}
use mathlib.Core.List.{List, [], ◌∷◌}
use Prim.Native.Nat.{ℕ, ◌<◌}
use native.Mathlib.Nat.{not-suc-le-zero}
use native.Mathlib.Omega.{arith}
use lib.ListN.{length, get_or, drop, length-drop}
use Rattle.std.proofs.Common.{Option, Some}
use Rattle.codes.specs.declared.Code.{Code}
use Rattle.codes.specs.Found.{found_by}
use Rattle.answers.specs.Judged.{get_of, unavailable, command, command_by}
use Rattle.answers.specs.Private.Orders.{order_of}
use Rattle.answers.proofs.judging.order_of.Goals as goal

-- The code says which row is meant, and whether values may follow. Assumes nothing.
no_code : (d : List ℕ) → length d ≡ 0 → command d ≡ unavailable
unfolding command
no_code [] e = refl
no_code (x ∷ d) e = absurd (omega arith)

by_code : (d : List ℕ) (f : Option Code) → 0 < length d → found_by (get_or d 0 0) ≡ f → command d ≡ command_by f (drop 1 d)
unfolding command
by_code [] f h e = absurd (not-suc-le-zero h)
by_code (x ∷ d) f h e = ap (λ (g : Option Code). command_by g d) e

alone : (row : ℕ) (vs : List ℕ) → length vs ≡ 0 → command_by (Some (Code.Get row)) vs ≡ get_of row
alone row [] e = refl
alone row (v ∷ vs) e = absurd (omega arith)

not_alone : (row : ℕ) (vs : List ℕ) → (length vs ≡ 0 → ⊥) → command_by (Some (Code.Get row)) vs ≡ unavailable
not_alone row [] h = absurd (h refl)
not_alone row (v ∷ vs) h = refl

pub returns-then-n-eq0 : goal.returns-then-n-eq0
returns-then-n-eq0 c = sym (ap order_of (no_code _ c.if-n-eq0.true))

pub returns-in-Set : goal.returns-in-Set
returns-in-Set c = sym (ap order_of (by_code _ _ (omega arith) (sym c.found_by.ensures ∙ c.in-Some.is ∙ ap Some c.in-Set.is)))

pub returns-then-n-eq1 : goal.returns-then-n-eq1
returns-then-n-eq1 c =
    let one : length (drop 1 c.args.d.now) ≡ 0 = simp length-drop (omega arith) in
    sym (ap order_of (by_code _ _ (omega arith) (sym c.found_by.ensures ∙ c.in-Some.is ∙ ap Some c.in-Get.is) ∙ alone c.in-Get.row (drop 1 c.args.d.now) one))

pub returns-else-n-eq1 : goal.returns-else-n-eq1
returns-else-n-eq1 c =
    let more : length (drop 1 c.args.d.now) ≡ 0 → ⊥ = λ z. c.if-n-eq1.false (omega (arith, rw length-drop at z)) in
    sym (ap order_of (by_code _ _ (omega arith) (sym c.found_by.ensures ∙ c.in-Some.is ∙ ap Some c.in-Get.is) ∙ not_alone c.in-Get.row (drop 1 c.args.d.now) more))

pub returns-in_default : goal.returns-in_default
returns-in_default c = sym (ap order_of (by_code _ _ (omega arith) (sym c.found_by.ensures ∙ c.in_default.is)))
