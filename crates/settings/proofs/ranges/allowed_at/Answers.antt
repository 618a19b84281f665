use mathlib.Core.Path.{◌≡◌, ◌∙◌}
use mathlib.Core.Bool.{true, false, ◌||◌}
use Prim.Native.Nat.{ℕ, ◌<◌}
use lib.ListN.{drop}
use Rattle.settings.specs.Settings.{Range, within, value_count}
use Rattle.settings.specs.Private.Numbers.{in_range, range_of, ranges_of, first_range}
use Rattle.settings.proofs.Laws.{first_and_more}
use Rattle.settings.proofs.ranges.allowed_at.Goals as goal

-- The first range is tried, then any more. Assumes nothing.
apart : {p : ℕ} (v : ℕ) {r : Range} → p < value_count → r ≡ first_range p → in_range r v || within (drop 1 (ranges_of p)) v ≡ within (ranges_of p) v
unfolding within
apart v h e = rw (first_and_more h, e)

pub returns-then-in_range : goal.returns-then-in_range
returns-then-in_range c =
    let here : in_range (range_of c.args.range) c.args.v ≡ true = (cc) in
    simp here at (apart c.args.v c.requires.0 c.requires.1)

pub returns : goal.returns
returns c =
    let here : in_range (range_of c.args.range) c.args.v ≡ false = (cc) in
    c.in_more.ensures ∙ simp here at (apart c.args.v c.requires.0 c.requires.1)
