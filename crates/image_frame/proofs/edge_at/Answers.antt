use mathlib.Core.Path.{◌≡◌}
use mathlib.Core.List.{List}
use Prim.Native.Nat.{ℕ, ◌+◌, ◌-◌, ◌*◌, ◌≤◌, ◌<◌}
use native.Mathlib.Omega.{arith}
use borrow.Author.Tests.{le-ltb, lt-ltb}
use lib.ListN.{length, get_or}
use Rattle.image_frame.specs.Frame.{count_of, edge}
use Rattle.image_frame.proofs.edge_at.Goals as goal

module _ (image : List ℕ) (n k : ℕ) (e : n ≡ count_of image) where
  behind_last : n ≤ k → length image - 2 - 2 * n ≡ edge image k
  unfolding edge
  behind_last h = rw (e, le-ltb k (count_of image) (omega arith))

  a_start : k < n → let at = length image - 2 - 2 * n + 2 * k in 256 * get_or image at 0 + get_or image (at + 1) 0 ≡ edge image k
  unfolding edge
  a_start h = rw (e, lt-ltb k (count_of image) (omega arith))

pub returns-then-n-k : goal.returns-then-n-k
returns-then-n-k c = behind_last _ _ _ c.requires.0 c.if-n-k.true

pub returns : goal.returns
returns c = a_start _ _ _ c.requires.0 c.if-n-k.false
