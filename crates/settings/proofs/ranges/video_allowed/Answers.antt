use mathlib.Core.Path.{◌≡◌, refl, sym, ap, ap₂, ◌∙◌}
use mathlib.Core.Bool.{Bool, true, false, cond, or-false, ◌&&◌, ◌||◌}
use mathlib.Core.List.{List, [], ◌∷◌}
use Prim.Native.Nat.{ℕ, ◌+◌, ◌<◌}
use native.Mathlib.Omega.{arith}
use lib.Dec.{eqb}
use lib.ListN.{length, get_or}
use Rattle.settings.specs.declared.Profile.{Profile}
use Rattle.settings.specs.declared.Span.{Span}
use Rattle.settings.specs.declared.More.{More}
use Rattle.settings.specs.declared.Table.{Table}
use Rattle.settings.specs.Settings.{Range, settings, within, video_allowed, video_row, most_values}
use Rattle.settings.specs.Private.Numbers.{in_range, video_range, span_of, range_of, is_more, tint_below, paper_table}
use Rattle.lists.proofs.Each.{alike, in_each}
use Rattle.settings.proofs.Laws.{other_many, allowed_after, allowed-step, allowed_end}
use Rattle.settings.proofs.ranges.video_allowed.Goals as goal
use Rattle.settings.proofs.ranges.video_allowed.Invariants.{rest}

-- The seven values are tried one after the other. The invariant: the answer is that of the values from k on. Assumes nothing.
-- the tint's range below 0 is the one behind a first
second : (r q : Range) (t : Bool) (v : ℕ) → within (r ∷ cond t (q ∷ []) []) v ≡ (in_range r v || (t && in_range q v))
unfolding within
second r q true v = ap (λ (b : Bool). in_range r v || b) (or-false (in_range q v))
second r q false v = refl

value : {k : ℕ} (v : ℕ) → k < most_values → within (get_or (video_allowed Profile.Phoenix) k []) v ≡ (in_range (video_range k) v || is_more k v tint_below)
value {k} v h =
    let q : Range = record { low = tint_below.1; high = tint_below.2 } in
    ap (λ (rs : List Range). within rs v)
    (alike (λ k. get_or (video_allowed Profile.Phoenix) k []) (λ k. video_range k ∷ cond (eqb tint_below.0 k) (q ∷ []) []) most_values refl h)
    ∙ second (video_range k) q (eqb tint_below.0 k) v

step : (k : ℕ) (vs : List ℕ) → k < most_values → k < length vs
    → rest vs k ≡ (in_range (video_range k) (get_or vs k 0) || is_more k (get_or vs k 0) tint_below) && rest vs (k + 1)
step k vs h hv = rw (← value (get_or vs k 0) h) (allowed-step (video_allowed Profile.Phoenix) vs k h hv)

first_in : {t : Table} {k : ℕ} (d : Span) → t ≡ paper_table → k < most_values → range_of (get_or t.phoenix.ranges k d) ≡ video_range k
unfolding paper_table
first_in {k = k} d e h =
    ap (λ (t : Table). range_of (get_or t.phoenix.ranges k d)) e ∙ ap range_of (in_each (λ k. span_of (video_range k)) most_values d h)

below_in : {t : Table} → t ≡ paper_table → t.phoenix.below ≡ tint_below
unfolding paper_table
below_in e = ap (λ (t : Table). t.phoenix.below) e

pub returns-then-values-ne-MOST_VALUES : goal.returns-then-values-ne-MOST_VALUES
unfolding settings
returns-then-values-ne-MOST_VALUES c = sym (other_many Profile.Phoenix video_row _ c.if-values-ne-MOST_VALUES.true)

pub returns-then-not-video_allowed_at : goal.returns-then-not-video_allowed_at
unfolding allowed_after settings
returns-then-not-video_allowed_at c =
    let tried : let v = get_or c.args.values.now c.loop-k.k 0 in (in_range (video_range c.loop-k.k) v || is_more c.loop-k.k v tint_below) ≡ c.video_allowed_at.result = let k = c.loop-k.k in let v = get_or c.args.values.now k 0 in let first = first_in {k = k} _ c.the_table.ensures (omega arith) in sym (c.video_allowed_at.ensures ∙ ap₂ (λ (r : Range) (m : More). in_range r v || is_more k v m) first (below_in c.the_table-2.ensures)) in
    let values = c.args.values.now in
    let here = tried ∙ c.if-not-video_allowed_at.true in
    sym (c.loop-k.invariant.1 ∙ step c.loop-k.k values (omega arith) (omega arith) ∙ simp here)

pub loop-k-preserved : goal.loop-k-preserved
loop-k-preserved c =
    let tried : let v = get_or c.args.values.now c.loop-k.k 0 in (in_range (video_range c.loop-k.k) v || is_more c.loop-k.k v tint_below) ≡ c.video_allowed_at.result = let k = c.loop-k.k in let v = get_or c.args.values.now k 0 in let first = first_in {k = k} _ c.the_table.ensures (omega arith) in sym (c.video_allowed_at.ensures ∙ ap₂ (λ (r : Range) (m : More). in_range r v || is_more k v m) first (below_in c.the_table-2.ensures)) in
    let values = c.args.values.now in
    let here = tried ∙ c.if-not-video_allowed_at.false in
    (omega arith, c.loop-k.invariant.1 ∙ step c.loop-k.k values (omega arith) (omega arith) ∙ simp here)

pub returns : goal.returns
unfolding allowed_after settings
returns c =
    let values = c.args.values.now in
    let all : c.loop-k.k ≡ most_values = omega arith in
    let all_values : c.loop-k.k ≡ length values = omega arith in
    sym (c.loop-k.invariant.1 ∙ allowed_end (video_allowed Profile.Phoenix) values c.loop-k.k all all_values)
