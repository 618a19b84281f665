use mathlib.Core.Path.{◌≡◌}
use mathlib.Core.List.{◌∷◌}
use Rattle.std.specs.Prelude.{Ok}
use Rattle.std.specs.Iterator.Adapters.{zip_first, zip_second}
use Rattle.std.specs.Slice.Iter.{iter_rest}
use Rattle.bursts.specs.Left.{bursts_left}
use Rattle.qx.specs.Replies.{replies_to, joined}
use Rattle.qx.proofs.hearing.hear_each.Given as goal

-- The invariant: what was said so far, and the answers that are left, say what all of them say. Assumes nothing.
abbrev pub invariant-loop-code : goal.invariant-loop-code
invariant-loop-code l =
    joined (replies_to l.id l.codes (bursts_left l.fn.answers)) ≡ joined (Ok l.reply ∷ replies_to l.id (iter_rest (zip_first l.code-iterator)) (bursts_left (zip_second l.code-iterator)))
