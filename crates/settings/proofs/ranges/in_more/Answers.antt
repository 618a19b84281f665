use mathlib.Core.Path.{◌≡◌, refl, ap, ◌∙◌}
use mathlib.Core.Bool.{Bool, true, false, cond, ◌&&◌, ◌||◌}
use mathlib.Core.List.{List, [], ◌∷◌, flatten}
use Prim.Native.Nat.{ℕ, ◌<◌}
use lib.Dec.{eqb}
use lib.ListN.{drop}
use Rattle.std.specs.List.{list_any}
use Rattle.settings.specs.declared.More.{More}
use Rattle.settings.specs.declared.Table.{Table}
use Rattle.settings.specs.Settings.{Range, within, settings, allowed_by_row, value_count}
use Rattle.settings.specs.Private.Numbers.{in_range, allowed_values, ranges_of, more_from, is_more, paper_table}
use Rattle.lists.proofs.Each.{alike}
use Rattle.settings.proofs.ranges.in_more.Goals as goal

-- The ranges of place p among those beyond the first are its own behind its first. Assumes nothing.
ranges_for : ℕ → List More → List Range
ranges_for p [] = []
ranges_for p (m ∷ ms) = cond (eqb m.0 p) (record { low = m.1; high = m.2 } ∷ ranges_for p ms) (ranges_for p ms)

any_within : (p v : ℕ) (ms : List More) → list_any (is_more p v) ms ≡ within (ranges_for p ms) v
unfolding ranges_for within
any_within p v [] = refl
any_within p v (m ∷ ms) = go (eqb m.0 p) (any_within p v ms)
  where
    go : (t : Bool) → list_any (is_more p v) ms ≡ within (ranges_for p ms) v
        → (t && in_range (record { low = m.1; high = m.2 }) v) || list_any (is_more p v) ms
        ≡ within (cond t (record { low = m.1; high = m.2 } ∷ ranges_for p ms) (ranges_for p ms)) v
    go true e = rw e
    go false e = e

right : {p : ℕ} (v : ℕ) → p < value_count → list_any (is_more p v) (more_from 0 allowed_values) ≡ within (drop 1 (ranges_of p)) v
unfolding settings allowed_by_row allowed_values flatten ranges_for
right {p} v h = any_within p v (more_from 0 allowed_values) ∙ ap (λ (rs : List Range). within rs v) (alike (λ p. ranges_for p (more_from 0 allowed_values)) (λ p. drop 1 (ranges_of p)) value_count refl h)

pub returns : goal.returns
unfolding paper_table
returns c =
    c.is_any.ensures ∙ ap (λ (t : Table). list_any (is_more c.args.p c.args.v) t.more) c.the_table.ensures ∙ right c.args.v c.requires
