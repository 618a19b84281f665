-- The index of a table: the place of each ID, and how many are in each group. Assumes nothing.
use mathlib.Core.Path.{◌≡◌, refl, sym, ap, subst, ◌∙◌}
use mathlib.Core.Bool.{Bool, true, false, cond}
use mathlib.Core.List.{List, [], ◌∷◌, map}
use Prim.Native.Nat.{ℕ, zero, suc, ◌+◌, ◌≤◌, ◌<◌}
use native.Mathlib.Nat.{le_of_suc-le-suc, not-suc-le-zero}
use native.Mathlib.Numerals.{add-one}
use native.Mathlib.Omega.{arith}
use borrow.Author.Tests.{eq-eqb, ne_eqb}
use lib.Dec.{eqb}
use lib.ListN.{length, get_or, drop, set, replicate, length-map, length-drop}
use lib.Seq.{drop-cons, drop-length}
use Rattle.std.specs.Prelude.{Option, Some, None}
use Rattle.lists.specs.Lists.{each}
use Rattle.lists.proofs.Each.{in_each, each_alike, each_same, set-each}
use Rattle.packet.specs.declared.MonitorId.{MonitorId}
use Rattle.packet.specs.declared.GroupId.{GroupId}
use Rattle.packet.specs.Packet.{monitor_id, group_id}
use Rattle.panels.specs.declared.Panel.{Panel}
use Rattle.panels.specs.declared.Table.{Table}
use Rattle.panels.specs.Wall.{Wall, blank, in_places, table_of, panels_of, place_from, place_of, place_number, members_of, most_panels, id_count, group_count}
use Rattle.panels.specs.WellFormed.{WellFormed}
use Rattle.panels.proofs.Laws.{count_is, place_there}

-- the index of the panels from place k on
unfoldable pub place_after : ℕ → Wall → ℕ → ℕ
place_after k w i = place_number (place_from (monitor_id i) k (drop k w))

unfoldable pub members_after : ℕ → Wall → ℕ → ℕ
members_after k w g = members_of (group_id g) (drop k w)

unfoldable pub places_from : ℕ → Wall → List ℕ
places_from k w = each (place_after k w) id_count

unfoldable pub members_from : ℕ → Wall → List ℕ
members_from k w = each (members_after k w) group_count

-- one panel more, before the others
module _ (w : Wall) (k : ℕ) (h : k < length w) where
  abbrev p : Panel
  p = get_or w k blank

  place-step : (i : ℕ) → place_after k w i ≡ place_number (cond (eqb p.id.0 i) (Some k) (place_from (monitor_id i) (k + 1) (drop (k + 1) w)))
  unfolding place_after place_from
  place-step i = rw (drop-cons w k blank, add-one)

  pub places_next : p.id.0 < id_count → set (places_from (k + 1) w) p.id.0 k ≡ places_from k w
  unfolding places_from place_after
  places_next b =
      let here : place_after k w p.id.0 ≡ k = place-step p.id.0 ∙ rw (eq-eqb p.id.0 p.id.0 refl) in
      let others : (i : ℕ) → (i ≡ p.id.0 → ⊥) → place_after (k + 1) w i ≡ place_after k w i = λ i ne. sym (place-step i ∙ rw (ne_eqb p.id.0 i (λ e. ne (sym e)))) in
      ap (set (places_from (k + 1) w) p.id.0) (sym here) ∙ set-each (place_after (k + 1) w) (place_after k w) id_count p.id.0 b others

  member_step : (g : ℕ) → members_after k w g ≡ cond (eqb p.group.0 g) (suc (members_after (k + 1) w g)) (members_after (k + 1) w g)
  unfolding members_after members_of
  member_step g = rw (drop-cons w k blank, add-one)

  pub members_next : p.group.0 < group_count → (d : ℕ)
      → set (members_from (k + 1) w) p.group.0 (get_or (members_from (k + 1) w) p.group.0 d + 1) ≡ members_from k w
  unfolding members_from
  members_next b d =
      let g = p.group.0 in
      let here : members_after k w g ≡ members_after (k + 1) w g + 1 = member_step g ∙ rw (eq-eqb g g refl) (sym (add-one (members_after (k + 1) w g))) in
      let others : (i : ℕ) → (i ≡ g → ⊥) → members_after (k + 1) w i ≡ members_after k w i = λ i ne. sym (member_step i ∙ rw (ne_eqb g i (λ e. ne (sym e)))) in
      ap (set (members_from (k + 1) w) g) (ap (λ (n : ℕ). n + 1) (in_each (members_after (k + 1) w) group_count d b) ∙ sym here)
      ∙ set-each (members_after (k + 1) w) (members_after k w) group_count g b others

-- the step of a loop from the last panel to the first
pub index_next : (w : Wall) (k : ℕ) {p : Panel} {places members : List ℕ} → p ≡ get_or w k blank → k < length w → p.id.0 < id_count → p.group.0 < group_count
    → places ≡ places_from (k + 1) w → members ≡ members_from (k + 1) w
    → (set places p.id.0 k ≡ places_from k w) × (set members p.group.0 (get_or members p.group.0 0 + 1) ≡ members_from k w)
index_next w k {p} e h i g places members = (
  rw places (subst (λ (p : Panel). p.id.0 < id_count → set (places_from (k + 1) w) p.id.0 k ≡ places_from k w) (sym e) (places_next w k h) i),
  rw members (subst (λ (p : Panel). p.group.0 < group_count → set (members_from (k + 1) w) p.group.0 (get_or (members_from (k + 1) w) p.group.0 0 + 1) ≡ members_from k w) (sym e) (λ b. members_next w k h b 0) g),
)

-- behind the last panel nothing is found, and nobody counted
pub no_places : (w : Wall) (k : ℕ) → k ≡ length w → replicate id_count most_panels ≡ places_from k w
unfolding places_from place_after place_from
no_places w k e = sym (each_same (place_after k w) id_count most_panels (λ i h. rw (e, drop-length w)))

pub no_members : (w : Wall) (k : ℕ) → k ≡ length w → replicate group_count 0 ≡ members_from k w
unfolding members_from members_after members_of
no_members w k e = sym (each_same (members_after k w) group_count 0 (λ g h. rw (e, drop-length w)))

-- there are no more in a group than in the wall
pub members_few : (g : GroupId) (w : Wall) → members_of g w ≤ length w
unfolding members_of
members_few g [] = omega arith
members_few g (p ∷ w) = go (eqb p.group.0 g.0) (members_few g w)
  where
    go : (t : Bool) → members_of g w ≤ length w → cond t (suc (members_of g w)) (members_of g w) ≤ suc (length w)
    go true h = omega arith
    go false h = omega arith

-- where a group has no member, no panel is in it
pub not_member : (g : GroupId) (w : Wall) → members_of g w ≡ 0 → (k : ℕ) → k < length w → eqb (get_or w k blank).group.0 g.0 ≡ false
unfolding members_of
not_member g [] e k h = absurd (not-suc-le-zero h)
not_member g (p ∷ w) e k h = go (eqb p.group.0 g.0) refl e (not_member g w) k h
  where
    go : (t : Bool) → eqb p.group.0 g.0 ≡ t → cond t (suc (members_of g w)) (members_of g w) ≡ 0
        → (members_of g w ≡ 0 → (k : ℕ) → k < length w → eqb (get_or w k blank).group.0 g.0 ≡ false)
        → (k : ℕ) → k < suc (length w) → eqb (get_or (p ∷ w) k blank).group.0 g.0 ≡ false
    go true s z rest k h = absurd (omega arith)
    go false s z rest zero h = s
    go false s z rest (suc k) h = rest z k (le_of_suc-le-suc h)

-- what is counted so far fits a byte
pub counted_few : (w : Wall) (k : ℕ) {members : List ℕ} (g : ℕ) → members ≡ members_from k w → g < group_count → get_or members g 0 ≤ length w
unfolding members_from members_after
counted_few w k g e h =
    let few = members_few (group_id g) (drop k w) in
    omega (arith, ap (λ (l : List ℕ). get_or l g 0) e, in_each (members_after k w) group_count 0 h, rw length-drop at few)

-- a table is known by its places, its count and its index
pub table_is : (t : Table) (w : Wall) → t.panels ≡ in_places w → t.count ≡ length w → t.places ≡ places_from 0 w → t.members ≡ members_from 0 w → t ≡ table_of w
unfolding table_of places_from place_after members_from members_after
table_is t w e n i g = λ j. record { panels = e j; places = i j; members = g j; count = n j }

-- what the index of a table says
module _ {t : Table} (f : WellFormed t) where
  pub place_found : (i : MonitorId) → i.0 < id_count → (d : ℕ) → get_or t.places i.0 d ≡ place_number (place_of i (panels_of t))
  unfolding table_of
  place_found i h d = ap (λ (t : Table). get_or t.places i.0 d) f.held ∙ in_each (λ i. place_number (place_of (monitor_id i) (panels_of t))) id_count d h

  pub members_found : (g : GroupId) → g.0 < group_count → (d : ℕ) → get_or t.members g.0 d ≡ members_of g (panels_of t)
  unfolding table_of
  members_found g h d = ap (λ (t : Table). get_or t.members g.0 d) f.held ∙ in_each (λ g. members_of (group_id g) (panels_of t)) group_count d h

-- a place is known by its number
pub place_by : (i : MonitorId) (w : Wall) → length w ≤ most_panels → (n : ℕ) → n ≡ place_number (place_of i w)
    → (n < most_panels → place_of i w ≡ Some n) × (most_panels ≤ n → place_of i w ≡ None)
place_by i w few n e = go (place_of i w) refl e
  where
    go : (q : Option ℕ) → place_of i w ≡ q → n ≡ place_number q → (n < most_panels → place_of i w ≡ Some n) × (most_panels ≤ n → place_of i w ≡ None)
    go (Some k) s m = ((λ h. s ∙ ap (λ (k : ℕ). Some k) (sym m)), (λ h. absurd (omega (arith, (place_there i w k s).0))))
    go None s m = ((λ h. absurd (omega arith)), (λ h. s))

-- the table with other panels in its places
abbrev pub with_panels : Table → List Panel → Table
with_panels t l = record { panels = l; places = t.places; members = t.members; count = t.count }

-- panels that keep their IDs and their groups keep the index
module _ (g : Panel → Panel) (keeps : (p : Panel) → ((g p).id ≡ p.id) × ((g p).group ≡ p.group)) where
  pub same_place : (i : MonitorId) (k : ℕ) (w : Wall) → place_from i k (map g w) ≡ place_from i k w
  unfolding place_from
  same_place i k [] = refl
  same_place i k (p ∷ w) = rw ((keeps p).0, same_place i (suc k) w)

  same_members : (i : GroupId) (w : Wall) → members_of i (map g w) ≡ members_of i w
  unfolding members_of
  same_members i [] = refl
  same_members i (p ∷ w) = rw ((keeps p).1, same_members i w)

  pub turned_table : {t : Table} → WellFormed t → (l : List Panel) → l ≡ in_places (map g (panels_of t)) → with_panels t l ≡ table_of (map g (panels_of t))
  unfolding table_of places_from place_after members_from members_after
  turned_table {t} f l e =
      let w = panels_of t in
      let was = f.held in
      table_is (with_panels t l) (map g w) e (count_is f ∙ sym (length-map w g))
      (ap (λ (t : Table). t.places) was ∙ each_alike _ _ id_count (λ i h. ap place_number (sym (same_place (monitor_id i) 0 w))))
      (ap (λ (t : Table). t.members) was ∙ each_alike _ _ group_count (λ i h. sym (same_members (group_id i) w)))
