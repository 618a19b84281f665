-- What a burst comes to is what it leaves, and the places that a packet goes to are all that it can change. Assumes nothing.
use mathlib.Core.Path.{◌≡◌, refl, sym, ap, subst, ◌∙◌}
use mathlib.Core.Bool.{Bool, true, false, cond, not, and-false, ◌&&◌}
use mathlib.Core.List.{List, map}
use mathlib.Core.Logic.{◌⊎◌, inl, inr}
use Prim.Native.Nat.{ℕ, zero, suc, ◌%◌, ◌≤◌, ◌<◌}
use native.Mathlib.Nat.{not-suc-le-zero}
use native.Mathlib.Omega.{arith}
use borrow.Author.Tests.{eq-eqb, ne_eqb, eqb-true, eqb-false, lt-ltb}
use lib.Dec.{eqb, ltb}
use lib.ListN.{length, get_or, drop}
use Rattle.packet.specs.declared.MonitorId.{MonitorId}
use Rattle.std.specs.Prelude.{Option, Some, None, is_some}
use Rattle.std.specs.Option.{option_map}
use Rattle.packet.specs.declared.Verdict.{Verdict}
use Rattle.packet.specs.Packet.{group_id}
use Rattle.packet.specs.Answered.{is_heard}
use Rattle.panels.specs.declared.Panel.{Panel}
use Rattle.panels.specs.Wall.{Wall, blank, place_of, place_number, members_of, most_panels}
use Rattle.panels.specs.Addressed.{reaches}
use Rattle.panels.specs.WellFormed.{GoodWall}
use Rattle.lists.proofs.Mapped.{map_same}
use Rattle.panels.proofs.Laws.{place_is, place_there, place_nowhere}
use Rattle.panels.proofs.Index.{not_member}
use Rattle.panels.proofs.Formed.{apart}
use Rattle.answers.specs.declared.Change.{Change}
use Rattle.answers.specs.declared.Entry.{Entry}
use Rattle.answers.specs.declared.Names.{Names}
use Rattle.answers.specs.declared.Span.{Span}
use Rattle.answers.specs.Reply.{silence}
use Rattle.answers.specs.Judged.{Command, Judged, get_of, set_of, unavailable, command, judge, panel_after, reply_by}
use Rattle.answers.specs.Played.{turned, reply_from, answered_by}
use Rattle.answers.specs.Turn.{named, entry_of, from, span_of, change_in, change_of, reply_to, nack_to, turn_by, turn_on, turned_by, Fits}
use Rattle.answers.specs.Private.Orders.{order_of}
use Rattle.answers.proofs.Orders.{OrderIs, order_right, judge-get}
use Rattle.answers.proofs.Turned.{either_way, stays}

-- What a burst comes to is what it leaves: the reply, and the wall as it was or with the change.
abbrev pub Leaves : Option Change → List ℕ → Wall → Wall → Type 0
Leaves None d w after = after ≡ w
Leaves (Some c) d w after = Fits c d w × (after ≡ map (turned_by c d) w)

-- A packet reaches no panel outside of its places.
abbrev Outside : ℕ → Span → Type 0
Outside k s = (k < s.first) ⊎ (s.end ≤ k)

record Holds (n : Names) (w : Wall) (s : Span) : Type 0 where
  ordered : s.first ≤ s.end
  inside : s.end ≤ length w
  others : (k : ℕ) → k < length w → Outside k s → reaches n.id n.group (get_or w k blank) ≡ false

-- and none at all where it has no places
abbrev Reached : Names → Wall → Option Span → Type 0
Reached n w None = (k : ℕ) → k < length w → reaches n.id n.group (get_or w k blank) ≡ false
Reached n w (Some s) = Holds n w s

module _ (n : Names) (w : Wall) (few : length w ≤ most_panels) (good : GoodWall w) where
  no_place : (k : ℕ) → Outside k (from 0 (length w)) → k < length w → ⊥
  no_place k (inl h) m = not-suc-le-zero h
  no_place k (inr h) m = omega arith

  all : Holds n w (from 0 (length w))
  all = record { ordered = omega arith; inside = omega arith; others = λ k h o. absurd (no_place k o h) }

  -- a packet to one ID
  other-id : n.group.0 ≡ 0 → (n.id.0 ≡ 0 → ⊥) → (p : Panel) → (p.id.0 ≡ n.id.0 → ⊥) → reaches n.id n.group p ≡ false
  unfolding reaches
  other-id z named p other = rw (eq-eqb _ _ z, ne_eqb _ _ named, ne_eqb _ _ other)

  one : n.group.0 ≡ 0 → (n.id.0 ≡ 0 → ⊥) → (q : Option ℕ) → place_of n.id w ≡ q
      → Reached n w (cond (ltb (place_number q) most_panels) (Some (from (place_number q) (suc (place_number q)))) None)
  one z named (Some k) e =
      let (h, same) = place_there n.id w k e in
      let not_there : (j : ℕ) → Outside j (from k (suc k)) → j ≡ k → ⊥ = λ j o s. outside_not j k o s in
      rw (lt-ltb k most_panels (omega arith))
      (record {
        ordered = omega arith;
        inside = h;
        others = λ j t o. other-id z named (get_or w j blank) (λ s. not_there j o (apart w j k good t h (s ∙ sym same)));
      })
    where
      outside_not : (j k : ℕ) → Outside j (from k (suc k)) → j ≡ k → ⊥
      outside_not j k (inl h) s = omega arith
      outside_not j k (inr h) s = omega arith
  one z named None e = λ j t. other-id z named (get_or w j blank) (place_nowhere n.id w e j t)

  -- a packet to a group
  group : (n.group.0 ≡ 0 → ⊥) → (m : ℕ) → members_of n.group w ≡ m → Reached n w (cond (eqb m 0) None (Some (from 0 (length w))))
  unfolding reaches
  group z zero e = λ j t. rw (ne_eqb _ _ z, not_member n.group w e j t) (and-false (not (eqb n.group.0 255)))
  group z (suc m) e = rw (ne_eqb (suc m) 0 (λ (s : suc m ≡ 0). omega arith)) all

  span_holds : Reached n w (span_of (entry_of w n) n)
  unfolding span_of entry_of
  span_holds = go (eqb n.group.0 0) refl (eqb n.id.0 0) refl
    where
      go : (a : Bool) → eqb n.group.0 0 ≡ a → (b : Bool) → eqb n.id.0 0 ≡ b → Reached n w
          (cond a
          (cond b (Some (from 0 (length w))) (cond (ltb (place_number (place_of n.id w)) most_panels) (Some (from (place_number (place_of n.id w)) (suc (place_number (place_of n.id w))))) None))
          (cond (eqb (members_of n.group w) 0) None (Some (from 0 (length w)))))
      go true ea true eb = all
      go true ea false eb = one (eqb-true _ _ ea) (eqb-false _ _ eb) (place_of n.id w) refl
      go false ea b eb = group (eqb-false _ _ ea) (members_of n.group w) refl

  -- what a set changes, in the places of its packet
  module _ (row : ℕ) (d : List ℕ) (h : 0 < length d) (e : command d ≡ set_of row (drop 1 d)) where
    set_change : (s : Option Span) → Reached n w s → Leaves (option_map (change_in n row (drop 1 d)) s) d w (map (turned n.id n.group (command d)) w)
    set_change None s = map_same (turned n.id n.group (command d)) blank w (λ k m. stays n.id n.group (command d) (get_or w k blank) (s k m))
    set_change (Some p) s = (
      record {
        has_code = h;
        judged = refl;
        ordered = s.ordered;
        inside = s.inside;
        before = λ k o. stays n.id n.group _ (get_or w k blank) (s.others k (omega (arith, s.ordered, s.inside)) (inl o));
        behind = λ k o m. stays n.id n.group _ (get_or w k blank) (s.others k m (inr o));
      },
      ap (λ (c : Command). map (turned n.id n.group c) w) e,
    )

  -- the panel of the entry is the one with the ID
  entry_there : (k : ℕ) → place_of n.id w ≡ Some k → ((entry_of w n).at ≡ k) × (k < most_panels) × ((entry_of w n).panel ≡ get_or w k blank)
  unfolding entry_of
  entry_there k e =
      let h = (place_there n.id w k e).0 in
      let small : k < most_panels = omega arith in
      let here : k % most_panels ≡ k = omega arith in
      (ap place_number e, small, rw (e, here) (place_is w k blank small))

  entry_nowhere : place_of n.id w ≡ None → (entry_of w n).at ≡ most_panels
  unfolding entry_of
  entry_nowhere e = ap place_number e

  there : (q : Option ℕ) → place_of n.id w ≡ q → {A : Type 0} (a b : A) → cond (ltb (entry_of w n).at most_panels) a b ≡ cond (is_some q) a b
  there (Some k) e a b = let (at, small, _) = entry_there k e in rw (at, lt-ltb k most_panels small)
  there None e a b = rw (entry_nowhere e)

  -- the reply is that of the panel with the ID, or silence
  reply_is : (c : Command) → reply_to (entry_of w n) n c ≡ cond (is_heard n.id n.group) (reply_from w n.id c (place_of n.id w)) silence
  unfolding reply_to
  reply_is c = go (is_heard n.id n.group) (place_of n.id w) refl
    where
      e : Entry
      e = entry_of w n

      go : (b : Bool) (q : Option ℕ) → place_of n.id w ≡ q
          → cond (b && ltb e.at most_panels) (reply_by e.panel.id (judge c e.panel)) silence ≡ cond b (reply_from w n.id c q) silence
      go true (Some k) s =
          let (_, _, p) = entry_there k s in
          let id : (get_or w k blank).id ≡ n.id = λ t. record { 0 = (place_there n.id w k s).1 t } in
          there (Some k) s _ _ ∙ rw (p, id)
      go true None s = there None s _ _
      go false q s = refl

module _ (w : Wall) (few : length w ≤ most_panels) (good : GoodWall w) where
  order_leaves : (n : Names) (d : List ℕ) (c : Command) → command d ≡ c → OrderIs d (order_of c)
      → Leaves (change_of (entry_of w n) n c) d w (map (turned n.id n.group (command d)) w)
  unfolding change_of turned
  order_leaves n d (get_of row) s (_, e) =
      map_same _ blank w (λ k h. either_way (reaches n.id n.group _) (ap (λ (j : Judged). panel_after j (get_or w k blank)) (judge-get (command d) row (get_or w k blank) e)))
  order_leaves n d (set_of row values) s (_, h, e) =
      subst (λ (c : Command). Leaves (change_of (entry_of w n) n c) d w (map (turned n.id n.group (command d)) w)) (sym e ∙ s) (set_change n w few good row d h e _ (span_holds n w few good))
  order_leaves n d unavailable s o =
      map_same _ blank w (λ k h. either_way (reaches n.id n.group _) (ap (λ (j : Judged). panel_after j (get_or w k blank)) (o (get_or w k blank))))

  pub turn_leaves : (v : Verdict) (d : List ℕ) (a : Option MonitorId) → Leaves (turn_on w v d a).change d w (answered_by v w d a).wall
  unfolding turn_by
  turn_leaves Verdict.Empty d a = refl
  turn_leaves (Verdict.Damaged damage) d a = refl
  turn_leaves (Verdict.Intact i g n) d a = order_leaves (named i g) d (command d) refl (order_right d)

  pub turn_replies : (v : Verdict) (d : List ℕ) (a : Option MonitorId) → (turn_on w v d a).reply ≡ (answered_by v w d a).reply
  unfolding turn_by nack_to
  turn_replies Verdict.Empty d a = refl
  turn_replies (Verdict.Damaged damage) d None = refl
  turn_replies (Verdict.Damaged damage) d (Some i) = there (named i (group_id 0)) w few good (place_of i w) refl _ _
  turn_replies (Verdict.Intact i g n) d a = reply_is (named i g) w few good (command d)
