use mathlib.Core.Path.{◌≡◌, sym, ap, ◌∙◌}
use mathlib.Core.Bool.{Bool, true}
use Prim.Native.Nat.{◌≤◌}
use borrow.Author.Tests.{le-leb, lt-leb, eq-eqb, ne_eqb}
use Rattle.settings.specs.Settings.{most_values}
use Rattle.codes.specs.Found.{found_by}
use Rattle.std.proofs.Common.{Option, Some}
use Rattle.codes.specs.declared.Code.{Code}
use Rattle.packet.specs.declared.Edition.{Edition}
use Rattle.packet.specs.Edition.{carries}
use Rattle.requests.specs.declared.Request.{Request}
use Rattle.requests.specs.Request.{is_taken, is_request}
use Rattle.requests.proofs.is_request.Goals as goal

-- Each test is a case of `is_request`. Assumes nothing.
few : (edition : Edition) (r : Request) {found f : Option Code} {line : Bool} → r.count ≤ most_values → line ≡ carries edition r.group → line ≡ true
    → found ≡ found_by r.code → found ≡ f → is_request edition r ≡ is_taken r f
unfolding is_request
few edition r h carried line is e = rw (le-leb _ _ h, sym carried ∙ line, sym is ∙ e)

pub returns-then-count-gt-MOST_VALUES : goal.returns-then-count-gt-MOST_VALUES
unfolding is_request
returns-then-count-gt-MOST_VALUES c = simp (lt-leb _ _ c.if-count-gt-MOST_VALUES.true)

pub returns-then-not-carries : goal.returns-then-not-carries
unfolding is_request
returns-then-not-carries c = simp (le-leb _ _ c.if-count-gt-MOST_VALUES.false, sym c.carries.ensures ∙ c.if-not-carries.true)

pub returns-then-group : goal.returns-then-group
unfolding is_taken
returns-then-group c =
    sym (few _ _ c.if-count-gt-MOST_VALUES.false c.carries.ensures c.if-not-carries.false c.found_by-found.ensures (c.in-Some.is ∙ ap Some c.in-Set.is) ∙ simp (eq-eqb _ _ c.if-group.true))

pub returns-then-count-ne0 : goal.returns-then-count-ne0
unfolding is_taken
returns-then-count-ne0 c =
    sym (few _ _ c.if-count-gt-MOST_VALUES.false c.carries.ensures c.if-not-carries.false c.found_by-found.ensures (c.in-Some.is ∙ ap Some c.in-Get.is) ∙ simp (ne_eqb _ _ c.if-count-ne0.true))

pub returns-else-group : goal.returns-else-group
unfolding is_taken
returns-else-group c =
    sym (few _ _ c.if-count-gt-MOST_VALUES.false c.carries.ensures c.if-not-carries.false c.found_by-found.ensures (c.in-Some.is ∙ ap Some c.in-Set.is) ∙ simp (ne_eqb _ _ c.if-group.false, sym c.may_set.ensures))

pub returns-else-count-ne0 : goal.returns-else-count-ne0
unfolding is_taken
returns-else-count-ne0 c =
    sym (few _ _ c.if-count-gt-MOST_VALUES.false c.carries.ensures c.if-not-carries.false c.found_by-found.ensures (c.in-Some.is ∙ ap Some c.in-Get.is) ∙ rw (eq-eqb _ _ c.if-count-ne0.false) (sym c.is_heard.ensures))

pub returns-in_default : goal.returns-in_default
unfolding is_taken
returns-in_default c = sym (few _ _ c.if-count-gt-MOST_VALUES.false c.carries.ensures c.if-not-carries.false c.found_by-found.ensures c.in_default.is)
