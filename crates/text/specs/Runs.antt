-- A run: a step after the other, each a call with the state that the step before it left, its number, from 1 on, and its bytes.
use Rattle.std.specs.Prelude.{ℕ, ◌+◌, ◌≡◌, List, Result, Ok}
use Rattle.std.specs.List.{FoldsTo}
use Rattle.std.specs.Fn.{Shared}
use denote.Ref.{Bor}

module _ {F S E : Type 0} (g : Shared F (S × (ℕ × (Bor (List ℕ) × Unit {0}))) (Result S E)) (f : F) where
  -- behind so many steps and in that state, a call of f with these bytes may leave the next
  abbrev pub StepsTo : ℕ × S → List ℕ → ℕ × S → Type 0
  StepsTo (n, s) bytes (m, t) = (m ≡ n + 1) × ((p : Bor (List ℕ)) × g.post f (s, (m, (p, tt))) (Ok t) × (p.now ≡ bytes))

  -- from the first state on some steps, so many, lead to that one
  pub record RunsTo (first : S) (n : ℕ) (last : S) : Type 0 where
    pub steps : List (List ℕ)
    pub calls : FoldsTo StepsTo (0, first) steps (n, last)
