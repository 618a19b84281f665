-- The pass of a change over a table, place by place: the first places are turned, the others are as they were. Assumes nothing.
use mathlib.Core.Path.{◌≡◌, refl, sym, ap, ap₂, ◌∙◌}
use mathlib.Core.Bool.{true, false}
use mathlib.Core.List.{List, ◌++◌, map, map-append, append_assoc, append-nil}
use Prim.Native.Nat.{ℕ, ◌+◌, ◌-◌, ◌≤◌, ◌<◌}
use borrow.Rule.Slice.PartMut.{mid_of, put_mid}
use native.Mathlib.Numerals.{add-one}
use native.Mathlib.Omega.{arith}
use lib.ListN.{length, get_or, take, drop, set, length-append, length-take, length-drop, length-map}
use Rattle.std.proofs.lemmas.List.{drop_all, get_or_default, take-map}
use lib.Seq.{set-get_or, take_all, get_or-take, take-add, drop-drop}
use Rattle.lists.proofs.Mapped.{map_same, seam_on}
use Rattle.panels.specs.declared.Panel.{Panel}
use Rattle.panels.specs.declared.Table.{Table}
use Rattle.panels.specs.Wall.{blank, panels_of, table_of, most_panels}
use Rattle.panels.specs.WellFormed.{WellFormed}
use Rattle.panels.proofs.Laws.{places_many, turned_places, held_places, count_is, in_wall_lem}
use Rattle.panels.proofs.Index.{with_panels, turned_table}
use Rattle.answers.specs.declared.Change.{Change}
use Rattle.answers.specs.Judged.{stored, held_then}
use Rattle.answers.specs.Turn.{is_stored, turned_by, Fits}
use Rattle.answers.proofs.Formed.{turned-keeps}
use Rattle.answers.proofs.Turned.{turn_next, set-stored, set_not}

-- a list with the elements in some places turned, before which none would change
part_turned : (f : Panel → Panel) (l part : List Panel) (a b : ℕ) → a ≤ b → ((k : ℕ) → k < a → k < length l → f (get_or l k blank) ≡ get_or l k blank)
    → part ≡ map f (mid_of a (b - a) l) → put_mid a (b - a) l part ≡ take b (map f l) ++ drop b l
part_turned f l part a b h same e =
    let all : a + (b - a) ≡ b = omega arith in
    let front : map f (take a l) ≡ take a l =
    map_same f blank (take a l) (λ k m. let low : k < a = omega (arith, rw length-take at m) in
    let inside : k < length l = omega (arith, rw length-take at m) in
    let here = get_or-take a l k blank low in
    rw here (same k low inside)) in
    let turned : take b (map f l) ≡ take a l ++ part =
    take-map f b l ∙ ap (λ (n : ℕ). map f (take n l)) (sym all) ∙ ap (map f) (take-add a (b - a) l) ∙ map-append f (take a l) (mid_of a (b - a) l) ∙ ap₂ (λ (x y : List Panel). x ++ y) front (sym e) in
    let rest : drop (b - a) (drop a l) ≡ drop b l = drop-drop (b - a) a l ∙ ap (λ (n : ℕ). drop n l) all in
    sym (append_assoc (take a l) part (drop (b - a) (drop a l))) ∙ ap₂ (λ (x y : List Panel). x ++ y) (sym turned) rest

-- and a list of which all are turned
pub all_turned : (f : Panel → Panel) (l : List Panel) (k : ℕ) → length l ≤ k → take k (map f l) ++ drop k l ≡ map f l
all_turned f l k h = rw (take_all k (map f l) (rw length-map h), drop_all k l h) (append-nil (map f l))

-- a panel keeps its ID and its group
keeps : (c : Change) (d : List ℕ) (p : Panel) → ((turned_by c d p).id ≡ p.id) × ((turned_by c d p).group ≡ p.group)
unfolding stored
keeps c d p =
    (turned-keeps (λ (q : Panel). q.id) p (λ row vs. refl) c.names.id c.names.group _, turned-keeps (λ (q : Panel). q.group) p (λ row vs. refl) c.names.id c.names.group _)

-- a change that is one of the table's wall
module _ {t : Table} (f : WellFormed t) (c : Change) (d : List ℕ) (fits : Fits c d (panels_of t)) where
  -- the places are 32, and those of the change are the wall's
  many : length t.panels ≡ most_panels
  many = ap length (held_places f) ∙ places_many _ f.few

  pub few : c.span.end ≤ most_panels
  few = omega (arith, fits.inside, f.few)

  -- a panel of the wall stays where the change does not go
  stay : (k : ℕ) → k < length (panels_of t) → turned_by c d (get_or (panels_of t) k blank) ≡ get_or (panels_of t) k blank
      → turned_by c d (get_or t.panels k blank) ≡ get_or t.panels k blank
  stay k h e = let here = in_wall_lem f k blank (omega (arith, count_is f)) in rw here e

  -- the table with the places of the change turned
  pub pass_last : (l : List Panel) → l ≡ map (turned_by c d) (mid_of c.span.first (c.span.end - c.span.first) t.panels)
      → with_panels t (put_mid c.span.first (c.span.end - c.span.first) t.panels l) ≡ table_of (map (turned_by c d) (panels_of t))
  pass_last l e =
      let w = panels_of t in
      let part = part_turned (turned_by c d) t.panels l c.span.first c.span.end fits.ordered (λ k h m. stay k (omega (arith, fits.ordered, fits.inside)) (fits.before k h)) e in
      let on = seam_on (turned_by c d) blank t.panels c.span.end (length w) fits.inside (omega (arith, many, f.few)) (λ k h m. stay k m (fits.behind k h m)) in
      turned_table (turned_by c d) (keeps c d) f _
      (part ∙ on ∙ ap (λ (m : List Panel). take (length w) (map (turned_by c d) m) ++ drop (length w) m) (held_places f) ∙ turned_places (turned_by c d) w)

-- one place more of the list of a change's places
module _ (c : Change) (d : List ℕ) (l : List Panel) {u : List Panel} {k : ℕ} (is : u ≡ take k (map (turned_by c d) l) ++ drop k l) (h : k < length l) where
  abbrev next : List Panel
  next = take (k + 1) (map (turned_by c d) l) ++ drop (k + 1) l

  here : (e : Panel) → get_or u k e ≡ get_or u k blank
  here e = get_or_default u k e blank (rw (is, length-append, length-take, length-drop, length-map) (omega arith))

  turned_on : (q : Panel) → q ≡ turned_by c d (get_or u k blank) → set u k q ≡ next
  turned_on q p = ap (set u k) p ∙ rw (is, add-one) (turn_next (turned_by c d) l k h)

  -- the panel there takes it, or stays
  pub pass_stored : (e : Panel) {q : Panel} → let p = get_or u k e in
      is_stored c.names c.row (drop 1 d) p ≡ true → q ≡ stored c.row (held_then c.row (drop 1 d) p) p → set u k q ≡ next
  pass_stored e s q = turned_on _ (q ∙ sym (set-stored c.names c.row (drop 1 d) _ s) ∙ ap (turned_by c d) (here e))

  pub pass_stays : (e : Panel) → is_stored c.names c.row (drop 1 d) (get_or u k e) ≡ false → u ≡ next
  pass_stays e s =
      let same = ap (turned_by c d) (sym (here e)) ∙ set_not c.names c.row (drop 1 d) _ s ∙ here e in
      sym (set-get_or u k blank) ∙ turned_on _ (sym same)
