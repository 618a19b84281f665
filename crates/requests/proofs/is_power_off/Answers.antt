use mathlib.Core.Path.{◌≡◌, sym, ap, ◌∙◌}
use mathlib.Core.Bool.{false}
use Prim.Native.Nat.{ℕ}
use native.Mathlib.Omega.{arith}
use borrow.Author.Rules.{rules}
use borrow.Author.Tests.{eq-eqb, ne_eqb}
use lib.ListN.{length, take, length-take}
use Rattle.lists.specs.Lists.{same}
use Rattle.lists.proofs.Same.{same_first, same-other}
use Rattle.settings.specs.Settings.{set_code, power_row, off, most_values}
use Rattle.requests.specs.declared.Request.{Request}
use Rattle.requests.specs.Request.{is_power_off}
use Rattle.requests.proofs.is_power_off.Goals as goal

module _ (r : Request) where
  other-code : (r.code ≡ set_code power_row → ⊥) → is_power_off r ≡ false
  unfolding is_power_off same
  other-code ne = rw (ne_eqb r.code _ ne)

  power : r.code ≡ set_code power_row → is_power_off r ≡ same (take r.count r.values) off
  unfolding is_power_off same
  power e = rw (eq-eqb r.code _ e)

pub returns-then-request-set_code : goal.returns-then-request-set_code
returns-then-request-set_code c = sym (other-code _ (λ e. c.if-request-set_code.true (e ∙ sym c.set_code.ensures)))

pub returns-then-request-eq1 : goal.returns-then-request-eq1
returns-then-request-eq1 c =
    let full : length c.args.request.values ≡ most_values = search rules in
    let sets_power : c.args.request.code ≡ set_code power_row = c.if-request-set_code.false ∙ c.set_code.ensures in
    let r = c.args.request in
    sym (power r sets_power ∙ ap (λ (n : ℕ). same (take n r.values) off) c.if-request-eq1.true
    ∙ same_first r.values 1 (omega (arith, full)))

pub returns-else-request-eq1 : goal.returns-else-request-eq1
returns-else-request-eq1 c =
    let full : length c.args.request.values ≡ most_values = search rules in
    let sets_power : c.args.request.code ≡ set_code power_row = c.if-request-set_code.false ∙ c.set_code.ensures in
    let r = c.args.request in
    let differs = ne_eqb r.count 1 c.if-request-eq1.false in
    differs
    ∙ sym (power r sets_power
    ∙ same-other (take r.count r.values) 1 (λ e. c.if-request-eq1.false (omega (arith, full, rw length-take at e))))
