-- A count byte that counts more than stands behind it cuts the list; where none does, it is whole. Assumes nothing.
use Rattle.std.proofs.Common.{◌≡◌, length, take, drop, List, ℕ, sym, ap, ◌∙◌, arith}
use Rattle.std.proofs.lemmas.Grind.{common_steps}
use Rattle.std.specs.Option.{option_map}
use Rattle.bursts.specs.Bursts.{Bursts, bursts_in}
use Rattle.bursts.specs.Left.{bursts_left, whole_bursts}
use Rattle.bursts.proofs.Bursts.{first_of}
use Rattle.bursts.proofs.Walks.{front_burst, front_cut, front_none}
use Rattle.bursts.proofs.BurstList.of.Goals as goal

pub returns-in_err-left : goal.returns-in_err-left
unfolding whole_bursts
returns-in_err-left c =
    let cut = front_cut _ _ _ c.in-Some.ensures.cases.0 (grind (arith, c.in_err-left.ensures.lookup, c.count_of.ensures)) in
    ap (option_map bursts_left) c.from_residual.ensures ∙ rw (c.loop-size.invariant.cut, cut)

pub loop-size-preserved : goal.loop-size-preserved
loop-size-preserved c =
    let here = front_burst _ _ _ c.in-Some.ensures.cases.0 (grind (arith, c.in_ok-left.ensures.lookup, c.count_of.ensures)) in
    let left : c.in_ok-left.left.now ≡ drop c.in-Some.size.now c.in-Some.behind.now = grind (arith, common_steps, c.in_ok-left.ensures.lookup, c.count_of.ensures) in
    let is = here ∙ ap (λ (l : List ℕ). first_of (take c.in-Some.size.now c.in-Some.behind.now) (bursts_in l)) (sym left) in
    let few = ap {B = ℕ} length c.in-Some.ensures.cases.0 in
    record {
      few = omega (arith, c.in_ok-left.ensures.lookup);
      cut = c.loop-size.invariant.cut ∙ ap (λ (b : Bursts). b.cut) is;
      counted = omega (arith, ap (λ (b : Bursts). length b.whole) is);
    }

pub invariant_of-result : goal.invariant_of-result
invariant_of-result c =
    let none = front_none _ c.in_default.ensures.cases in
    record { whole = c.loop-size.invariant.cut ∙ ap (λ (b : Bursts). b.cut) none; counted = omega (arith, ap (λ (b : Bursts). length b.whole) none) }

pub returns : goal.returns
unfolding whole_bursts
returns c =
    let none = front_none _ c.in_default.ensures.cases in
    rw (c.loop-size.invariant.cut ∙ ap (λ (b : Bursts). b.cut) none)
