-- The bursts that a list taken apart has left.
use Rattle.std.specs.Prelude.{ℕ, cond, List, Option, None, Some}
use Rattle.bursts.specs.Bursts.{bursts_in}
use Rattle.bursts.specs.declared.BurstList.{BurstList}

abbrev pub bursts_left : BurstList → List (List ℕ)
bursts_left b = (bursts_in b.left.now).whole

-- all bursts of a list, and nothing of one that stops inside a burst
unfoldable pub whole_bursts : List ℕ → Option (List (List ℕ))
whole_bursts list = let b = bursts_in list in cond b.cut None (Some b.whole)
