use mathlib.Core.Path.{◌≡◌, refl, sym, ap, ◌∙◌}
use mathlib.Core.Bool.{Bool, ◌&&◌}
use mathlib.Core.List.{List}
use Prim.Native.Nat.{ℕ, ◌+◌, ◌<◌}
use native.Mathlib.Omega.{arith}
use lib.ListN.{length, get_or}
use Rattle.settings.specs.declared.Profile.{Profile}
use Rattle.settings.specs.Settings.{setting, byte_count, place, within, value_count}
use Rattle.settings.specs.Private.Numbers.{ranges_of, first_range, range_of, span_of, paper_table}
use Rattle.settings.specs.declared.Span.{Span}
use Rattle.settings.specs.declared.Table.{Table}
use Rattle.lists.proofs.Each.{in_each}
use Rattle.settings.proofs.Laws.{place_fits, byte-count_some, at_place, other_many, allowed_after, allowed-step, allowed_end}
use Rattle.settings.proofs.ranges.general_allowed.Goals as goal
use Rattle.settings.proofs.ranges.general_allowed.Invariants.{rest}

-- As many values as the row has are tried one after the other.
inside : (row first k : ℕ) → first ≡ place row → k < byte_count row → first + k < value_count
inside row first k e h = omega (arith, place_fits row)

first_in : {t : Table} {p : ℕ} (d : Span) → t ≡ paper_table → p < value_count → range_of (get_or t.ranges p d) ≡ first_range p
unfolding paper_table
first_in {p = p} d e h =
    ap (λ (t : Table). range_of (get_or t.ranges p d)) e ∙ ap range_of (in_each (λ p. span_of (first_range p)) value_count d h)

-- value k was tried at place p
tried : (row first k p : ℕ) (values : List ℕ) (allowed : Bool) → length values ≡ byte_count row → first ≡ place row → k < byte_count row → p ≡ first + k
    → allowed ≡ within (ranges_of p) (get_or values k 0) → rest row values k ≡ allowed && rest row values (k + 1)
tried row first k p values allowed n f h e is =
    let here : p ≡ place row + k = omega arith in
    rw (is, here, ← at_place row k h) (allowed-step ((setting row).allowed Profile.General) values k h (rw n h))

pub returns-then-values-at : goal.returns-then-values-at
returns-then-values-at c = sym (other_many Profile.General _ _ (λ e. c.if-values-at.true (e ∙ sym c.values-at.ensures.table.0)))

pub offset_bounds-ranges-first : goal.offset_bounds-ranges-first
offset_bounds-ranges-first c = omega (arith, inside _ _ 0 c.values-at.ensures.table.1 (byte-count_some c.values-at.ensures.below))

pub overflow_add-p : goal.overflow_add-p
overflow_add-p c = omega (arith, inside _ _ c.loop-k.k c.values-at.ensures.table.1 (rw (← (c.if-values-at.false ∙ c.values-at.ensures.table.0)) c.loop-k-test.true))

pub offset_bounds-ranges-p : goal.offset_bounds-ranges-p
offset_bounds-ranges-p c = omega (arith, inside _ _ c.loop-k.k c.values-at.ensures.table.1 (rw (← (c.if-values-at.false ∙ c.values-at.ensures.table.0)) c.loop-k-test.true))

pub bounds-ranges-first : goal.bounds-ranges-first
bounds-ranges-first c = omega (arith, inside _ _ 0 c.values-at.ensures.table.1 ((byte-count_some c.values-at.ensures.below)))

pub bounds-values-0 : goal.bounds-values-0
bounds-values-0 c = omega (arith, (byte-count_some c.values-at.ensures.below), c.if-values-at.false, c.values-at.ensures.table.0)

pub allowed_at-requires : goal.allowed_at-requires
allowed_at-requires c =
    let h : c.values-at.result.1 < value_count = omega (arith, inside _ _ 0 c.values-at.ensures.table.1 ((byte-count_some c.values-at.ensures.below))) in
    (h, first_in _ c.the_table.ensures h)

pub returns-then-not-allowed_at : goal.returns-then-not-allowed_at
unfolding allowed_after
returns-then-not-allowed_at c =
    let many = c.if-values-at.false ∙ c.values-at.ensures.table.0 in
    let one = tried c.args.row c.values-at.result.1 0 c.values-at.result.1 c.args.values.now c.allowed_at.result many c.values-at.ensures.table.1 ((byte-count_some c.values-at.ensures.below)) (omega arith) c.allowed_at.ensures in
    sym (one ∙ simp c.if-not-allowed_at.true)

pub loop-k-init : goal.loop-k-init
loop-k-init c =
    let many = c.if-values-at.false ∙ c.values-at.ensures.table.0 in
    let one = tried c.args.row c.values-at.result.1 0 c.values-at.result.1 c.args.values.now c.allowed_at.result many c.values-at.ensures.table.1 ((byte-count_some c.values-at.ensures.below)) (omega arith) c.allowed_at.ensures in
    ((byte-count_some c.values-at.ensures.below), one ∙ simp c.if-not-allowed_at.false)

pub bounds-ranges-p : goal.bounds-ranges-p
bounds-ranges-p c = inside _ _ c.loop-k.k c.values-at.ensures.table.1 (rw (← (c.if-values-at.false ∙ c.values-at.ensures.table.0)) c.loop-k-test.true)

pub allowed_at-requires-in-loop-k : goal.allowed_at-requires-in-loop-k
allowed_at-requires-in-loop-k c =
    let h = inside _ _ c.loop-k.k c.values-at.ensures.table.1 (rw (← (c.if-values-at.false ∙ c.values-at.ensures.table.0)) c.loop-k-test.true) in
    (h, first_in _ c.the_table.ensures h)

pub returns-then-not-allowed_at-2 : goal.returns-then-not-allowed_at-2
unfolding allowed_after
returns-then-not-allowed_at-2 c =
    let many = c.if-values-at.false ∙ c.values-at.ensures.table.0 in
    let turn : c.loop-k.k < byte_count c.args.row = rw (← many) c.loop-k-test.true in
    let next = tried c.args.row c.values-at.result.1 c.loop-k.k _ c.args.values.now c.allowed_at-in-loop-k.result many c.values-at.ensures.table.1 turn refl c.allowed_at-in-loop-k.ensures in
    sym (c.loop-k.invariant.1 ∙ next ∙ simp c.if-not-allowed_at-2.true)

pub loop-k-preserved : goal.loop-k-preserved
loop-k-preserved c =
    let many = c.if-values-at.false ∙ c.values-at.ensures.table.0 in
    let turn : c.loop-k.k < byte_count c.args.row = rw (← many) c.loop-k-test.true in
    let next = tried c.args.row c.values-at.result.1 c.loop-k.k _ c.args.values.now c.allowed_at-in-loop-k.result many c.values-at.ensures.table.1 turn refl c.allowed_at-in-loop-k.ensures in
    (omega (arith, turn), c.loop-k.invariant.1 ∙ next ∙ simp c.if-not-allowed_at-2.false)

pub returns : goal.returns
unfolding allowed_after
returns c =
    let many = c.if-values-at.false ∙ c.values-at.ensures.table.0 in
    let all : c.loop-k.k ≡ byte_count c.args.row = omega (arith, many) in
    sym (c.loop-k.invariant.1 ∙ allowed_end ((setting c.args.row).allowed Profile.General) c.args.values.now c.loop-k.k all (all ∙ sym many))
