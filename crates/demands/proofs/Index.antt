-- The index of a table. Assumes nothing.
use Prim.Native.Nat.{ℕ, suc}
use mathlib.Core.Bool.{cond}
use mathlib.Core.Logic.{◌⊎◌, inl, inr, ite}
use mathlib.Core.Path.{◌≡◌, refl, sym, ap, ◌∙◌}
use mathlib.Core.List.{[], ◌∷◌, filter}
use native.Mathlib.Decide.{ℕ_discrete}
use borrow.Author.Tests.{eq-eqb, ne_eqb}
use lib.Dec.{eqb}
use lib.ListN.{length, get_or}
use Rattle.std.specs.Prelude.{Option, Some, None}
use Rattle.lists.proofs.Each.{length-each}
use Rattle.packet.specs.Packet.{monitor_id, group_id}
use Rattle.panels.specs.declared.Panel.{Panel}
use Rattle.panels.specs.declared.Table.{Table}
use Rattle.panels.specs.Wall.{Wall, table_of, panels_of, place_of, place_number, members_of}
use Rattle.panels.proofs.Laws.{place_there, place_nowhere}
use Rattle.panels.proofs.Index.{place_found, members_found}
use Rattle.panels.proofs.Formed.{apart}
use Rattle.demands.proofs.Demand2.{in_range_lem}
use Rattle.demands.specs.Index.{HasId, PlaceKept, MembersKept, IndexWhole}

pub place_kept : PlaceKept
place_kept t c id h = go (place_of (monitor_id id) w) refl
  where
    w : Wall
    w = panels_of t

    index : ℕ
    index = get_or t.places id 0

    go : (q : Option ℕ) → place_of (monitor_id id) w ≡ q
        → (HasId w id index × ((k : ℕ) → HasId w id k → k ≡ index)) ⊎ ((index ≡ 32) × ((k : ℕ) → HasId w id k → ⊥))
    go (Some k) e =
        let f = in_range_lem t c in
        let is : index ≡ k = place_found f (monitor_id id) h 0 ∙ ap place_number e in
        let has : HasId w id index = rw is (place_there (monitor_id id) w k e) in
        inl (has, λ j other. apart w j index f.good other.0 has.0 (other.1 ∙ sym has.1))
    go None e = inr (place_found (in_range_lem t c) (monitor_id id) h 0 ∙ ap place_number e, λ k has. place_nowhere (monitor_id id) w e k has.0 has.1)

-- one after the other, or all at once
counted : (group : ℕ) (w : Wall) → members_of (group_id group) w ≡ length (filter (λ (p : Panel). ℕ_discrete p.group.0 group) w)
unfolding members_of
counted group [] = refl
counted group (p ∷ w) = go (ℕ_discrete p.group.0 group) (counted group w)
  where
    has : (p : Panel) → Dec (p.group.0 ≡ group)
    has p = ℕ_discrete p.group.0 group

    go : (d : Dec (p.group.0 ≡ group)) → members_of (group_id group) w ≡ length (filter has w)
        → cond (eqb p.group.0 group) (suc (members_of (group_id group) w)) (members_of (group_id group) w) ≡ length (ite d (p ∷ filter has w) (filter has w))
    go (yes e) n = rw (eq-eqb _ _ e, n)
    go (no e) n = rw (ne_eqb _ _ e, n)

pub members_kept : MembersKept
members_kept t c group h = members_found (in_range_lem t c) (group_id group) h 0 ∙ counted group (panels_of t)

pub index_whole : IndexWhole
unfolding table_of
index_whole t c =
    let f = in_range_lem t c in
    let w = panels_of t in (
      ap (λ (t : Table). length t.places) f.held ∙ length-each (λ i. place_number (place_of (monitor_id i) w)) 256,
      ap (λ (t : Table). length t.members) f.held ∙ length-each (λ g. members_of (group_id g) w) 256,
      f.few,
    )
