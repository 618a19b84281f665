-- One step more. Assumes nothing.
use Rattle.std.proofs.Common.{ℕ, ◌+◌, List, [], ◌∷◌, ◌++◌, Result, Ok, refl, arith, length-take}
use Rattle.std.proofs.lemmas.Fn.{FoldsTo-push}
use Rattle.std.specs.Fn.{Shared}
use denote.Ref.{Bor}
use Rattle.text.specs.Runs.{StepsTo, RunsTo}
use Rattle.text.proofs.each.Goals as goal

one_more : {F S E : Type 0} (g : Shared F (S × (ℕ × (Bor (List ℕ) × Unit {0}))) (Result S E)) (f : F) (first : S) (n : ℕ) (s : S) (p : Bor (List ℕ)) (t : S)
    → RunsTo g f first n s → g.post f (s, (n + 1, (p, tt))) (Ok t) → RunsTo g f first (n + 1) t
one_more g f first n s p t runs r = record {
  steps = runs.steps ++ p.now ∷ [];
  calls = FoldsTo-push (StepsTo g f) (0, first) runs.steps (n, s) p.now (n + 1, t) runs.calls (refl, (p, r, refl));
}

pub step-requires : goal.step-requires
step-requires g c = c.requires.step _ _ c.loop-number.invariant c.front.result (rw (c.front.ensures, length-take) (omega arith))

pub loop-number-preserved : goal.loop-number-preserved
loop-number-preserved g c =
    one_more g.F.Fn c.args.step c.args.first c.loop-number.number-counter c.loop-number.state c.front.result c.in_ok-state-in-Ok.state c.loop-number.invariant c.in_ok-state-in-Ok.ensures
