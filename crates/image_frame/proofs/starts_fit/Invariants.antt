use mathlib.Core.Path.{◌≡◌}
use Prim.Native.Nat.{◌-◌}
use Rattle.image_frame.specs.Frame.{edge, rises}
use Rattle.image_frame.proofs.starts_fit.Given as goal

-- the answer is whether the edges rise from k on
abbrev pub invariant-loop-k : goal.invariant-loop-k
invariant-loop-k l = (l.here ≡ edge l.image l.k) × (rises l.image 0 l.n ≡ rises l.image l.k (l.n - l.k))
