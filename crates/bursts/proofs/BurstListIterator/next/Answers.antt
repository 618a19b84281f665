-- The list is not cut, so its first burst stands there whole. Assumes nothing.
use Rattle.std.proofs.Common.{◌≡◌, ◌∷◌, length, take, drop, false, List, ℕ, sym, ap, ap₂, subst, ◌∙◌, arith}
use Rattle.std.specs.Iterator.{YieldsFirstRef}
use Rattle.bursts.specs.Bursts.{Bursts, bursts_in}
use Rattle.bursts.specs.Left.{bursts_left}
use Rattle.bursts.proofs.Bursts.{first_of}
use Rattle.bursts.proofs.Walks.{front_burst, front_whole, front_none}
use Rattle.bursts.proofs.BurstListIterator.next.Goals as goal
use Rattle.bursts.proofs.BurstListIterator.next.Goals.{After-split_at}

-- the first burst, and those behind it
at_front : (list bytes burst left : List ℕ) (size n : ℕ) → list ≡ size ∷ bytes → n ≡ size → (bursts_in list).cut ≡ false → burst ≡ take n bytes → left ≡ drop n bytes
    → bursts_in list ≡ first_of burst (bursts_in left)
at_front list bytes burst left size n is e whole f l =
    front_burst list bytes size is (front_whole list bytes size is whole) ∙ ap₂ (λ (a b : List ℕ). first_of a (bursts_in b)) (sym (f ∙ ap (λ (k : ℕ). take k bytes) e)) (sym (l ∙ ap (λ (k : ℕ). drop k bytes) e))

taken : (c : After-split_at) → bursts_in c.args.self.now.left.now ≡ first_of c.split_at.result.0.now (bursts_in c.split_at.result.1.now)
taken c = at_front _ _ _ _ _ _ c.in_ok-size.ensures.cases.0 c.count_of.ensures c.args.self.now.whole c.split_at.ensures.front c.split_at.ensures.back

pub returns-in_err-size-clause-steps : goal.returns-in_err-size-clause-steps
returns-in_err-size-clause-steps c =
    let none = ap (λ (b : Bursts). b.whole) (front_none _ c.in_err-size.ensures.cases) in
    subst (λ r. YieldsFirstRef bursts_left c.args.self.now r c.args.self.now) (sym c.from_residual.ensures) (none, none)

pub split_at-requires : goal.split_at-requires
split_at-requires c = omega (arith, c.count_of.ensures, front_whole _ _ _ c.in_ok-size.ensures.cases.0 c.args.self.now.whole)

pub overflow_sub-self : goal.overflow_sub-self
overflow_sub-self c = omega (arith, c.args.self.now.counted, ap (λ (b : Bursts). length b.whole) (taken (goal.at.overflow_sub-self c).After-split_at))

pub invariant_of-self : goal.invariant_of-self
invariant_of-self c =
    let is = taken (goal.at.invariant_of-self c).After-split_at in
    record { whole = sym (ap (λ (b : Bursts). b.cut) is) ∙ c.args.self.now.whole; counted = omega (arith, c.args.self.now.counted, ap (λ (b : Bursts). length b.whole) is) }

pub returns-clause-steps : goal.returns-clause-steps
returns-clause-steps c = ap (λ (b : Bursts). b.whole) (taken (goal.at.returns-clause-steps c).After-split_at)

pub returns-clause-goes : goal.returns-clause-goes
returns-clause-goes c =
    let is = ap (λ (b : Bursts). length b.whole) (taken (goal.at.returns-clause-goes c).After-split_at) in
    record { on = λ _. (tt, tt, omega (arith, is)); keeps = tt; rests = λ _. tt }
