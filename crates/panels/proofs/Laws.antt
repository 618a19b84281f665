-- Walls and the tables that hold them. Assumes nothing.
use mathlib.Core.Path.{◌≡◌, refl, sym, ap, ap₂, subst, ◌∙◌}
use mathlib.Core.Bool.{Bool, true, false, cond}
use mathlib.Core.List.{List, [], ◌∷◌, ◌++◌, map}
use Prim.Native.Nat.{ℕ, zero, suc, ◌+◌, ◌-◌, ◌≤◌, ◌<◌}
use native.Mathlib.Nat.{add-zero, le_of_suc-le-suc, not-suc-le-zero}
use native.Mathlib.Omega.{arith}
use borrow.Author.Tests.{eqb-true, eqb-false}
use lib.Dec.{eqb}
use lib.ListN.{length, get_or, take, drop, set, replicate, length-append, length-take, length-replicate, length-map, get_or-replicate}
use lib.Seq.{length-take-le, take-append_seam, drop-append_seam, get_or-take, set-append_seam, append_snoc}
use Rattle.std.proofs.lemmas.List.{get_or_default, take-map}
use Rattle.std.specs.Prelude.{Option, Some, None}
use Rattle.packet.specs.declared.MonitorId.{MonitorId}
use Rattle.panels.specs.declared.Panel.{Panel}
use Rattle.panels.specs.declared.Table.{Table}
use Rattle.panels.specs.Wall.{Wall, blank, in_places, table_of, panels_of, place_from, most_panels}
use Rattle.panels.specs.WellFormed.{WellFormed}

-- A wall in its places. They begin with it, and are as many as a table has.
taken : (w : Wall) → take (length w) (in_places w) ≡ w
unfolding in_places
taken w = take-append_seam w _

pub places_many : (w : Wall) → length w ≤ most_panels → length (in_places w) ≡ most_panels
unfolding in_places
places_many w few = simp (length-append, length-replicate) (omega arith)

-- a place has the wall's panel, or none
padded : (w : Wall) (n k : ℕ) (d : Panel) → k < length w + n → get_or (w ++ replicate n blank) k d ≡ get_or w k blank
padded [] n k d h = get_or-replicate n k blank d (omega arith)
padded (p ∷ w) n zero d h = refl
padded (p ∷ w) n (suc k) d h = padded w n k d (omega arith)

pub place_is : (w : Wall) (k : ℕ) (d : Panel) → k < most_panels → get_or (in_places w) k d ≡ get_or w k blank
unfolding in_places
place_is w k d h = padded w (most_panels - length w) k d (omega arith)

-- one more panel behind the last
pub grown_places : (w : Wall) (p : Panel) → length w < most_panels → set (in_places w) (length w) p ≡ in_places (w ++ p ∷ [])
unfolding in_places
grown_places w p h =
    let was : most_panels - length w ≡ suc ((most_panels - 1) - length w) = omega arith in
    let is : most_panels - length (w ++ p ∷ []) ≡ (most_panels - 1) - length w = simp length-append (omega arith) in
    rw (was, set-append_seam, is) (sym (append_snoc w p _))

-- each panel turned for itself, and the places behind the last as they were
pub turned_places : (g : Panel → Panel) (w : Wall) → take (length w) (map g (in_places w)) ++ drop (length w) (in_places w) ≡ in_places (map g w)
unfolding in_places
turned_places g w =
    ap₂ (λ (l m : Wall). l ++ m) (take-map g (length w) (in_places w) ∙ ap (map g) (taken w)) (drop-append_seam w _)
    ∙ ap (λ (n : ℕ). map g w ++ replicate (most_panels - n) blank) (sym (length-map w g))

-- places that hold a wall hold it in their first: a table is made of them
pub held_first : {l : List Panel} {w : Wall} (n : ℕ) → l ≡ in_places w → n ≡ length w → take n l ≡ w
held_first {w = w} n e m = ap₂ take m e ∙ taken w

pub may_hold : {l : List Panel} (w : Wall) (n : ℕ) → l ≡ in_places w → n ≡ length w → length w ≤ most_panels → (n ≤ most_panels) × (l ≡ in_places (take n l))
may_hold w n e m few = (omega arith, e ∙ ap in_places (sym (held_first n e m)))

-- and as many as are taken of them
pub first_many : {l : List Panel} (n : ℕ) → n ≤ most_panels → l ≡ in_places (take n l) → length (take n l) ≡ n
first_many {l} n h e =
    let m : length l ≡ most_panels = ap length e ∙ places_many (take n l) (simp length-take (omega arith)) in
    length-take-le n l (omega arith)

-- places that are filled one after the other: none yet, one more
pub none-held : replicate most_panels blank ≡ in_places []
unfolding in_places
none-held = refl

pub one-held : (l : List Panel) (n : ℕ) (p : Panel) → n < most_panels → l ≡ in_places (take n l)
    → (set l n p ≡ in_places (take (n + 1) (set l n p))) × (take (n + 1) (set l n p) ≡ take n l ++ p ∷ [])
one-held l n p h e =
    let w = take n l in
    let m : length w ≡ n = first_many n (omega arith) e in
    let on : set l n p ≡ in_places (w ++ p ∷ []) = ap₂ (λ (l : Wall) (k : ℕ). set l k p) e (sym m) ∙ grown_places w p (omega arith) in
    let first = held_first (n + 1) on (simp length-append (omega arith)) in
    (on ∙ ap in_places (sym first), first)

pub panels_of_table : (w : Wall) → panels_of (table_of w) ≡ w
unfolding table_of
panels_of_table w = taken w

pub count_is : {t : Table} → WellFormed t → t.count ≡ length (panels_of t)
unfolding table_of
count_is f = ap (λ (t : Table). t.count) f.held

-- of the first of some places each has its panel
pub in_first : (l : List Panel) (n k : ℕ) (d : Panel) → length (take n l) ≡ n → k < n → get_or l k d ≡ get_or (take n l) k blank
in_first l n k d m h = sym (get_or-take n l k d h) ∙ get_or_default (take n l) k d blank (omega arith)

-- a place below the count is the wall's
pub in_wall_lem : {t : Table} → WellFormed t → (k : ℕ) (d : Panel) → k < t.count → get_or t.panels k d ≡ get_or (panels_of t) k blank
in_wall_lem {t} f k d h = in_first t.panels t.count k d (sym (count_is f)) h

-- the wall and its blank places are all that a table has
pub held_places : {t : Table} → WellFormed t → t.panels ≡ in_places (panels_of t)
unfolding table_of
held_places f = ap (λ (t : Table). t.panels) f.held

-- What is found is a place of the wall with that ID; where nothing is found no place has it.
abbrev pub IsPlace : MonitorId → ℕ → Wall → Option ℕ → Type 0
IsPlace i k w (Some m) = (j : ℕ) × (m ≡ k + j) × (j < length w) × ((get_or w j blank).id.0 ≡ i.0)
IsPlace i k w None = (j : ℕ) → j < length w → (get_or w j blank).id.0 ≡ i.0 → ⊥

place-from : (i : MonitorId) (k : ℕ) (w : Wall) → IsPlace i k w (place_from i k w)
unfolding place_from
place-from i k [] = λ j h. absurd (not-suc-le-zero h)
place-from i k (p ∷ w) = go (eqb p.id.0 i.0) refl (place_from i (suc k) w) (place-from i (suc k) w)
  where
    skip : ((j : ℕ) → j < length w → (get_or w j blank).id.0 ≡ i.0 → ⊥) → eqb p.id.0 i.0 ≡ false
        → (j : ℕ) → j < suc (length w) → (get_or (p ∷ w) j blank).id.0 ≡ i.0 → ⊥
    skip none e zero h = eqb-false _ _ e
    skip none e (suc j) h = none j (le_of_suc-le-suc h)

    go : (t : Bool) → eqb p.id.0 i.0 ≡ t → (q : Option ℕ) → IsPlace i (suc k) w q → IsPlace i k (p ∷ w) (cond t (Some k) q)
    go true e q ih = (0, sym (add-zero k), omega arith, eqb-true _ _ e)
    go false e (Some m) (j, n, h, same) = (suc j, omega arith, omega arith, same)
    go false e None none = skip none e

-- of the whole wall
pub place_there : (i : MonitorId) (w : Wall) (k : ℕ) → place_from i 0 w ≡ Some k → (k < length w) × ((get_or w k blank).id.0 ≡ i.0)
place_there i w k e =
    let (j, n, h, same) = subst (IsPlace i 0 w) e (place-from i 0 w) in
    let n' : j ≡ k = omega arith in
    (omega arith, rw (← n') same)

pub place_nowhere : (i : MonitorId) (w : Wall) → place_from i 0 w ≡ None → (j : ℕ) → j < length w → (get_or w j blank).id.0 ≡ i.0 → ⊥
place_nowhere i w e = subst (IsPlace i 0 w) e (place-from i 0 w)
