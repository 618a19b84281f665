use mathlib.Core.Path.{◌≡◌, refl, sym, ap, ap₂, ◌∙◌}
use mathlib.Core.Bool.{Bool, true, false, not, ◌&&◌, and-true}
use mathlib.Core.List.{List}
use Prim.Native.Nat.{ℕ, ◌<◌}
use native.Mathlib.Omega.{arith}
use borrow.Author.Tests.{ne_eqb, eqb-true, eqb-false}
use lib.Dec.{eqb}
use lib.ListN.{get_or, drop, length-drop}
use Rattle.settings.specs.declared.Profile.{Profile}
use Rattle.settings.specs.Settings.{settings, in_ranges, values_of, tiling_row}
use Rattle.settings.proofs.Laws.{ranges_many}
use Rattle.models.proofs.Filled.{filled-other, ranges_filled}
use Rattle.settings.specs.Profiles.{profile_number}
use Rattle.panels.specs.declared.Panel.{Panel}
use Rattle.panels.specs.Wall.{model_of}
use Rattle.answers.specs.Judged.{off_already, takes}
use Rattle.answers.specs.Turn.{allowed_by}
use Rattle.answers.specs.Private.Orders.{stands_then}
use Rattle.answers.proofs.judging.takes.Goals as goal

-- The panel's profile has its own place; what its ranges allow of a tiling stands in a wall or not. Assumes nothing.
numbers : (profile : Profile) → profile_number profile < 2
numbers Profile.General = omega arith
numbers Profile.Phoenix = omega arith

own : (profile : Profile) (row : ℕ) (vs : List ℕ) → get_or (allowed_by row vs) (profile_number profile) false ≡ in_ranges profile row vs
own Profile.General row vs = refl
own Profile.Phoenix row vs = refl

-- of any other row than the tiling's the ranges say all, but for a panel that is off
ranges_say : (row : ℕ) (vs : List ℕ) (p : Panel) → (row ≡ tiling_row → ⊥) → takes row vs p ≡ (in_ranges p.profile row vs && not (off_already row vs p))
unfolding takes
ranges_say row vs p ne =
    rw (filled-other row (get_or (values_of row p.values) 3 0) vs ne, ne_eqb row tiling_row ne, and-true (in_ranges p.profile row vs))

-- of a tiling they say all but the wall, and it turns no panel off
tiling_says : (vs : List ℕ) (p : Panel) → takes tiling_row vs p ≡ (in_ranges p.profile tiling_row vs && stands_then vs p)
unfolding takes off_already
tiling_says vs p = and-true _ ∙ ranges_filled p.profile (model_of p).kind (get_or (values_of tiling_row p.values) 3 0) vs

-- what the ranges do not allow is not taken
not_taken : (row : ℕ) (vs : List ℕ) (p : Panel) → in_ranges p.profile row vs ≡ false → takes row vs p ≡ false
not_taken row vs p e = go (eqb row tiling_row) refl
  where
    go : (t : Bool) → eqb row tiling_row ≡ t → takes row vs p ≡ false
    go true s = let same = eqb-true row tiling_row s in ap (λ (r : ℕ). takes r vs p) same ∙ tiling_says vs p ∙ rw (ap (λ (r : ℕ). in_ranges p.profile r vs) (sym same) ∙ e)
    go false s = ranges_say row vs p (eqb-false row tiling_row s) ∙ rw e

pub returns-then-not-allowed-number : goal.returns-then-not-allowed-number
returns-then-not-allowed-number c =
    let here : let a = c.args in in_ranges a.p.profile a.row (drop 1 a.d.now) ≡ get_or a.allowed c.from-number.result false = let a = c.args in sym (own a.p.profile a.row (drop 1 a.d.now)) ∙ ap₂ (λ (l : List Bool) (n : ℕ). get_or l n false) (sym c.requires) (sym c.from-number.ensures) in
    sym (not_taken _ _ _ (here ∙ c.if-not-allowed-number.true))

pub stands-requires : goal.stands-requires
unfolding settings
stands-requires c =
    let here : let a = c.args in in_ranges a.p.profile a.row (drop 1 a.d.now) ≡ get_or a.allowed c.from-number.result false = let a = c.args in sym (own a.p.profile a.row (drop 1 a.d.now)) ∙ ap₂ (λ (l : List Bool) (n : ℕ). get_or l n false) (sym c.requires) (sym c.from-number.ensures) in
    let allowed : let a = c.args in in_ranges a.p.profile a.row (drop 1 a.d.now) ≡ true = here ∙ c.if-not-allowed-number.false in
    let a = c.args in
    let many = ranges_many a.p.profile tiling_row (drop 1 a.d.now) (ap (λ (r : ℕ). in_ranges a.p.profile r (drop 1 a.d.now)) (sym (c.if-row-index.true ∙ c.index.ensures.number)) ∙ allowed) in
    omega (arith, rw length-drop at many)

pub returns-then-row-index : goal.returns-then-row-index
returns-then-row-index c =
    let here : let a = c.args in in_ranges a.p.profile a.row (drop 1 a.d.now) ≡ get_or a.allowed c.from-number.result false = let a = c.args in sym (own a.p.profile a.row (drop 1 a.d.now)) ∙ ap₂ (λ (l : List Bool) (n : ℕ). get_or l n false) (sym c.requires) (sym c.from-number.ensures) in
    let allowed : let a = c.args in in_ranges a.p.profile a.row (drop 1 a.d.now) ≡ true = here ∙ c.if-not-allowed-number.false in
    let a = c.args in
    let vs = drop 1 a.d.now in
    let is = (c.if-row-index.true ∙ c.index.ensures.number) in
    c.stands.ensures
    ∙ sym (ap (λ (r : ℕ). takes r vs a.p) is ∙ tiling_says vs a.p ∙ rw (ap (λ (r : ℕ). in_ranges a.p.profile r vs) (sym is) ∙ allowed))

pub returns : goal.returns
returns c =
    let here : let a = c.args in in_ranges a.p.profile a.row (drop 1 a.d.now) ≡ get_or a.allowed c.from-number.result false = let a = c.args in sym (own a.p.profile a.row (drop 1 a.d.now)) ∙ ap₂ (λ (l : List Bool) (n : ℕ). get_or l n false) (sym c.requires) (sym c.from-number.ensures) in
    let allowed : let a = c.args in in_ranges a.p.profile a.row (drop 1 a.d.now) ≡ true = here ∙ c.if-not-allowed-number.false in
    ap not c.off_already.ensures ∙ sym (ranges_say _ _ _ (λ e. c.if-row-index.false (e ∙ sym c.index.ensures.number)) ∙ rw allowed)
