use mathlib.Core.Path.{◌≡◌, sym, ap, ap₂, ◌∙◌}
use mathlib.Core.List.{List, ◌++◌}
use Prim.Native.Nat.{ℕ, suc, ◌+◌, ◌-◌, ◌≤◌, ◌<◌}
use native.Mathlib.Numerals.{add-one}
use native.Mathlib.Omega.{arith}
use lib.ListN.{length, take, drop, set, length-append, length-take, length-drop, replicate}
use lib.Seq.{take-append_seam, take-take, drop_at, drop-cons, set_at}
use Rattle.std.specs.Prelude.{Some}
use Rattle.std.specs.List.{copy_within}
use Rattle.std.proofs.lemmas.List.{drop-take}
use Rattle.panels.specs.declared.Panel.{Panel}
use Rattle.panels.specs.Wall.{Wall, in_places, table_of, panels_of, blank, most_panels}
use Rattle.table_calls.specs.Calls.{without}
use Rattle.panels.proofs.Laws.{held_first, may_hold}
use Rattle.table_calls.proofs.closed_up.Goals as goal

-- The panels behind place k move up, and the last place becomes blank. Assumes nothing.
length_without : (w : Wall) (k : ℕ) → k < length w → suc (length (without (Some k) w)) ≡ length w
length_without w k h = simp (length-append, length-take, length-drop) (omega arith)

moved : (w : Wall) (k : ℕ) → k < length w → length w ≤ most_panels
    → set (copy_within (in_places w) (k + 1) (length w) k) (length w - 1) blank ≡ in_places (without (Some k) w)
unfolding in_places
moved w k h few =
    let pad = replicate (most_panels - length w) blank in
    let xs = w ++ replicate (most_panels - length w) blank in
    let whole = take-append_seam w pad in
    let front : take k (w ++ replicate (most_panels - length w) blank) ≡ take k w = sym (take-take k (length w) xs (omega arith)) ∙ ap (take k) whole in
    let all : k + 1 + (length w - (k + 1)) ≡ length w = omega arith in
    let middle : take (length w - (k + 1)) (drop (k + 1) (w ++ replicate (most_panels - length w) blank)) ≡ drop (suc k) w =
    sym (drop-take (k + 1) (length w - (k + 1)) xs) ∙ ap₂ (λ (i : ℕ) (l : Wall). drop i l) (add-one k) (ap (λ (m : ℕ). take m xs) all ∙ whole) in
    let last : k + (length w - (k + 1)) ≡ length w - 1 = omega arith in
    let past : length w ≡ suc (length w - 1) = omega arith in
    let gone : drop (suc (length w - 1)) (w ++ replicate (most_panels - length w) blank) ≡ replicate (most_panels - length w) blank = drop_at w pad _ past in
    let some : length w - 1 < length (w ++ replicate (most_panels - length w) blank) = simp length-append (omega arith) in
    let short : length (without (Some k) w) ≡ length w - 1 = omega (arith, length_without w k h) in
    let fill : most_panels - length (without (Some k) w) ≡ suc (most_panels - length w) = omega (arith, length_without w k h) in
    rw (front, middle, last, drop-cons xs (length w - 1) blank some, gone, fill)
    (set_at (without (Some k) w) _ pad blank (length w - 1) short)

-- so that the places hold the wall without its panel k
closed : (w : Wall) (k n : ℕ) {places copied : List Panel} {b : Panel} → n ≡ length w → places ≡ in_places w → copied ≡ copy_within places (k + 1) n k → b ≡ blank
    → k < length w → length w ≤ most_panels → (set copied (n - 1) b ≡ in_places (without (Some k) w)) × (n - 1 ≡ length (without (Some k) w))
closed w k n many held after none h few = (rw (after, many, held, none) (moved w k h few), omega (arith, length_without w k h))

pub table_of-requires : goal.table_of-requires
table_of-requires c =
    let f = c.requires.0 in
    let e = closed (panels_of c.args.t) c.args.k _ c.count_of-n.ensures c.panels_of-places.ensures c.copy_within.ensures.after c.blank_panel.ensures c.requires.1 f.few in
    may_hold _ _ e.0 e.1 (omega (arith, e.1, f.few, length_without (panels_of c.args.t) c.args.k c.requires.1))

pub returns : goal.returns
returns c =
    let f = c.requires.0 in
    let e = closed (panels_of c.args.t) c.args.k _ c.count_of-n.ensures c.panels_of-places.ensures c.copy_within.ensures.after c.blank_panel.ensures c.requires.1 f.few in
    c.table_of.ensures ∙ ap table_of (held_first _ e.0 e.1)
