-- An answer put behind its count, into the part of an output behind a place. Assumes nothing.
use mathlib.Core.Path.{◌≡◌}
use mathlib.Core.List.{List, ◌∷◌}
use Prim.Native.Nat.{ℕ, ◌+◌, ◌-◌, ◌≤◌}
use native.Mathlib.Omega.{arith}
use borrow.Rule.Slice.PartMut.{mid_of, put_mid}
use lib.ListN.{length, set, length-take, length-drop}
use Rattle.lists.specs.Lists.{laid_at, laid_over}
use Rattle.lists.proofs.Laid.{laid_copy, laid_before}
use Rattle.packet.specs.Packet.{longest}
use Rattle.batch.specs.Scene.{room_for_one}

-- the part
abbrev pub behind : ℕ → List ℕ → List ℕ
behind at l = mid_of (at + 1) (length l - (at + 1)) l

module _ (at : ℕ) (l : List ℕ) (room : at + room_for_one ≤ length l) where
  pub wide : longest ≤ length (behind at l)
  wide = simp (length-take, length-drop) (omega arith)

  pub put_there : (s : List ℕ) → length s ≤ longest → set (put_mid (at + 1) (length l - (at + 1)) l (laid_over s (behind at l))) at (length s) ≡ laid_at at (length s ∷ s) l
  unfolding laid_over
  put_there s few =
      rw (laid_copy (at + 1) s l (omega arith)) (laid_before at (length s) s l (omega arith))
