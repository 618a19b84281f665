-- What every step of a run keeps holds of what it leaves. Assumes nothing.
use Rattle.std.proofs.Common.{ℕ, List, [], ◌∷◌, Result, Ok, subst}
use Rattle.std.specs.List.{FoldsTo}
use Rattle.std.specs.Fn.{Shared}
use denote.Ref.{Bor}
use Rattle.text.specs.Runs.{StepsTo, RunsTo}

module _ {F S E : Type 0} (g : Shared F (S × (ℕ × (Bor (List ℕ) × Unit {0}))) (Result S E)) (f : F) where
  kept_from : (P : S → Type 0) (from : ℕ × S) (steps : List (List ℕ)) (to : ℕ × S)
      → ((s : S) (n : ℕ) (bytes : Bor (List ℕ)) (t : S) → P s → g.post f (s, (n, (bytes, tt))) (Ok t) → P t)
      → P from.1 → FoldsTo (StepsTo g f) from steps to → P to.1
  kept_from P from [] to keeps h e = subst (λ (x : ℕ × S). P x.1) e h
  kept_from P from (bytes ∷ steps) to keeps h (next, (n, (p, met, e)), rest) = kept_from P next steps to keeps (keeps from.1 next.0 p next.1 h met) rest

pub kept : {F S E : Type 0} {g : Shared F (S × (ℕ × (Bor (List ℕ) × Unit {0}))) (Result S E)} {f : F} {first : S} {n : ℕ} {last : S} (P : S → Type 0)
    → RunsTo g f first n last → P first
    → ((s : S) (n : ℕ) (bytes : Bor (List ℕ)) (t : S) → P s → g.post f (s, (n, (bytes, tt))) (Ok t) → P t) → P last
kept {g = g} {f = f} {first = first} {n = n} {last = last} P runs h keeps = kept_from g f P (0, first) runs.steps (n, last) keeps h runs.calls
