-- How long a line can be. Assumes nothing.
use mathlib.Core.Bool.{Bool, true, false, cond}
use mathlib.Core.List.{[], ◌∷◌, ◌++◌}
use Prim.Native.Nat.{ℕ, ◌+◌, ◌/◌, ◌%◌, ◌≤◌}
use native.Mathlib.Omega.{arith}
use lib.Dec.{ltb}
use lib.ListN.{length}
use Rattle.image_faults.specs.declared.Fault.{Fault}
use Rattle.image_faults.specs.Lines.{space, line_feed, decimal, fault_number, code_words, line_of, longest_line}

pub line_short : (n : ℕ) (f : Fault) → length (line_of n f) ≤ longest_line
unfolding line_of
line_short n f = go (ltb n 10) f
  where
    go : (t : Bool) (f : Fault)
        → length (cond t ((48 + n) ∷ []) ((48 + n / 10) ∷ (48 + n % 10) ∷ []) ++ space ∷ (decimal (fault_number f) ++ code_words f ++ line_feed ∷ [])) ≤ longest_line
    go true Fault.Dropped = omega arith
    go true (Fault.Broken code) = omega arith
    go true (Fault.NotAllowed code) = omega arith
    go false Fault.Dropped = omega arith
    go false (Fault.Broken code) = omega arith
    go false (Fault.NotAllowed code) = omega arith
