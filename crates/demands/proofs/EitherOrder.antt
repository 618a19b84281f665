-- Two bursts in either order: each panel by itself, then the wall and the answers. Assumes nothing.
use Prim.Native.Nat.{ℕ, ◌<◌}
use mathlib.Core.Bool.{Bool, true, false, cond, false≢true, ◌&&◌, ◌||◌}
use mathlib.Core.Path.{◌≡◌, refl, sym, ap, ◌∙◌}
use mathlib.Core.List.{List, [], ◌∷◌, map}
use borrow.Author.Tests.{eqb-false, eq-eqb}
use lib.Dec.{eqb}
use lib.ListN.{length, get_or}
use Rattle.std.proofs.lemmas.List.{get_or-map}
use Rattle.std.specs.Prelude.{Option, Some, None, is_some}
use Rattle.lists.proofs.Both.{both}
use Rattle.lists.proofs.Mapped.{map_alike}
use Rattle.packet.specs.declared.MonitorId.{MonitorId}
use Rattle.packet.specs.declared.GroupId.{GroupId}
use Rattle.packet.specs.declared.Verdict.{Verdict}
use Rattle.packet.specs.declared.Control.{Control}
use Rattle.packet.specs.Answered.{is_heard}
use Rattle.packet.specs.Reading.{Reading}
use Rattle.panels.specs.declared.Panel.{Panel}
use Rattle.panels.specs.Wall.{Wall, blank, place_of}
use Rattle.panels.specs.Addressed.{reaches}
use Rattle.panels.specs.WellFormed.{GoodPanel, GoodWall}
use Rattle.panels.proofs.Formed.{good_at}
use Rattle.panels.proofs.Index.{same_place}
use Rattle.panels.proofs.Laws.{place_there}
use Rattle.answers.specs.Reply.{silence, word_from}
use Rattle.answers.specs.Judged.{Command, get_of, set_of, unavailable, command, judge, reply_by}
use Rattle.answers.specs.Played.{turned, reply_from, nack_from, answered_by, answered}
use Rattle.answers.specs.Session.{by_burst}
use Rattle.answers.proofs.Orders.{OnLine, on_line}
use Rattle.answers.proofs.Others.{after, AlikeFor, Leaves, left_alike, same-reply, sets_either}
use Rattle.demands.proofs.Each.{changed_by, changed, all_each, kept-names, not_addressed, same-addressed}
use Rattle.demands.specs.Apart.{addressed_by}
use Rattle.demands.specs.Rooms.{names, sets_named, disturbed}

-- a command that does not set what another names leaves that row
leaves : (c d : Command) (row : ℕ) → ((other : ℕ) → names c other ≡ eqb row other) → sets_named d c ≡ false → Leaves d row
leaves c (set_of other us) row is e = eqb-false row other (sym (is other) ∙ e)
leaves c (get_of other) row is e = tt
leaves c unavailable row is e = tt

neither : (a b : Bool) → (a || b) ≡ false → (a ≡ false) × (b ≡ false)
neither false false e = (refl, refl)
neither false true e = absurd (false≢true (sym e))
neither true b e = absurd (false≢true (sym e))

-- So it leaves a panel alike for the other, and either may be first.
module _ (p : Panel) (good : GoodPanel p) where
  left : (c d : Command) → OnLine d → sets_named d c ≡ false → AlikeFor c p (after d p)
  left (set_of row vs) d on e = left_alike row d on (leaves (set_of row vs) d row (λ other. refl) e) p good
  left (get_of row) d on e = left_alike row d on (leaves (get_of row) d row (λ other. refl) e) p good
  left unavailable d on e = tt

  either_after : (c d : Command) → OnLine c → OnLine d → sets_named d c ≡ false → after c (after d p) ≡ after d (after c p)
  unfolding judge
  either_after (set_of row vs) (set_of other us) on on-other e = sets_either row other (eqb-false row other e) vs us on on-other p good
  either_after (set_of row vs) (get_of other) on on-other e = refl
  either_after (set_of row vs) unavailable on on-other e = refl
  either_after (get_of row) d on on-other e = refl
  either_after unavailable d on on-other e = refl

-- what a burst makes of a panel that it addresses
addressed_after : (v : Verdict) (d : List ℕ) (p : Panel) → addressed_by v p ≡ true → changed_by v d p ≡ after (command d) p
unfolding turned
addressed_after Verdict.Empty d p e = absurd (false≢true e)
addressed_after (Verdict.Damaged damage) d p e = absurd (false≢true e)
addressed_after (Verdict.Intact i g n) d p e = rw e

-- Two bursts of which neither disturbs the other at a panel: it ends the same in either order, and says the same.
module _ (p : Panel) (good : GoodPanel p) (r s : Reading) (free : disturbed r s p ≡ false) where
  abbrev c : Command
  c = command r.part

  abbrev d : Command
  d = command s.part

  unnamed : addressed_by r.verdict p ≡ true → addressed_by s.verdict p ≡ true → sets_named d c ≡ false
  unnamed x y = (neither (sets_named c d) (sets_named d c) (rw (x, y) at free)).1

  either_changed : changed r (changed s p) ≡ changed s (changed r p)
  either_changed = go (addressed_by r.verdict p) (addressed_by s.verdict p) refl refl
    where
      go : (a b : Bool) → addressed_by r.verdict p ≡ a → addressed_by s.verdict p ≡ b → changed r (changed s p) ≡ changed s (changed r p)
      go false b x y =
          not_addressed r.verdict r.part (changed s p) (same-addressed r.verdict s p ∙ x)
          ∙ sym (ap (changed s) (not_addressed r.verdict r.part p x))
      go true false x y =
          ap (changed r) (not_addressed s.verdict s.part p y)
          ∙ sym (not_addressed s.verdict s.part (changed r p) (same-addressed s.verdict r p ∙ y))
      go true true x y =
          addressed_after r.verdict r.part (changed s p) (same-addressed r.verdict s p ∙ x)
          ∙ ap (after c) (addressed_after s.verdict s.part p y)
          ∙ either_after p good c d (on_line r.part) (on_line s.part) (unnamed x y)
          ∙ sym (addressed_after s.verdict s.part (changed r p) (same-addressed s.verdict r p ∙ y)
          ∙ ap (after d) (addressed_after r.verdict r.part p x))

  same-said : addressed_by r.verdict p ≡ true → (i : MonitorId)
      → reply_by i (judge c (changed s p)) ≡ reply_by i (judge c p)
  same-said x i = go (addressed_by s.verdict p) refl
    where
      go : (b : Bool) → addressed_by s.verdict p ≡ b → reply_by i (judge c (changed s p)) ≡ reply_by i (judge c p)
      go false y = ap (λ (q : Panel). reply_by i (judge c q)) (not_addressed s.verdict s.part p y)
      go true y =
          ap (λ (q : Panel). reply_by i (judge c q)) (addressed_after s.verdict s.part p y)
          ∙ same-reply i c p (after d p) (left p good c d (on_line s.part) (unnamed x y))

-- a packet that is answered addresses the panel with its ID
heard-addressed : (i : MonitorId) (g : GroupId) (p : Panel) → is_heard i g ≡ true → p.id.0 ≡ i.0 → reaches i g p ≡ true
unfolding is_heard reaches
heard-addressed i g p h e = rw ((both (eqb g.0 0) _ h).0, eq-eqb _ _ e) (either (eqb i.0 0))
  where
    either : (t : Bool) → (t || true) ≡ true
    either true = refl
    either false = refl

-- The same of a wall.
module _ (w : Wall) (good : GoodWall w) (r s : Reading) (free : (k : ℕ) → k < length w → disturbed r s (get_or w k blank) ≡ false) where
  pub either_wall : (answered (answered w r).wall s).wall ≡ (answered (answered w s).wall r).wall
  unfolding by_burst
  either_wall =
      all_each w (r ∷ s ∷ [])
      ∙ map_alike _ _ blank w (λ k h. sym (either_changed (get_or w k blank) (good_at w good k h) r s (free k h)))
      ∙ sym (all_each w (s ∷ r ∷ []))

  pub same_answer : (v : Wall) → v ≡ map (changed s) w → (answered v r).reply ≡ (answered w r).reply
  unfolding answered
  same_answer v is = go r.verdict refl
    where
      place : (i : MonitorId) → place_of i v ≡ place_of i w
      place i = ap (place_of i) is ∙ same_place (changed s) (kept-names s.verdict s.part) i 0 w

      nack : (a : Option MonitorId) → nack_from v a ≡ nack_from w a
      nack None = refl
      nack (Some i) = ap (λ (q : Option ℕ). cond (is_some q) (word_from i Control.Nack) silence) (place i)

      from : (i : MonitorId) (g : GroupId) (n : ℕ) → r.verdict ≡ Verdict.Intact i g n → is_heard i g ≡ true → (q : Option ℕ) → place_of i w ≡ q
          → reply_from v i (command r.part) q ≡ reply_from w i (command r.part) q
      from i g n e h None at = refl
      from i g n e h (Some k) at =
          let (inside, same) = place_there i w k at in
          let p = get_or w k blank in
          ap (λ (u : Wall). reply_by i (judge (command r.part) (get_or u k blank))) is
          ∙ ap (λ (q : Panel). reply_by i (judge (command r.part) q)) (get_or-map (changed s) w k blank blank inside)
          ∙ same-said p (good_at w good k inside) r s (free k inside) (ap (λ (x : Verdict). addressed_by x p) e ∙ heard-addressed i g p h same) i

      heard : (i : MonitorId) (g : GroupId) (n : ℕ) → r.verdict ≡ Verdict.Intact i g n → (t : Bool) → is_heard i g ≡ t
          → cond t (reply_from v i (command r.part) (place_of i v)) silence ≡ cond t (reply_from w i (command r.part) (place_of i w)) silence
      heard i g n e true h = ap (reply_from v i (command r.part)) (place i) ∙ from i g n e h (place_of i w) refl
      heard i g n e false h = refl

      go : (x : Verdict) → r.verdict ≡ x → (answered_by x v r.part r.seems).reply ≡ (answered_by x w r.part r.seems).reply
      go Verdict.Empty e = refl
      go (Verdict.Damaged damage) e = nack r.seems
      go (Verdict.Intact i g n) e = heard i g n e (is_heard i g) refl

-- neither disturbs the other
pub free_sym : (r s : Reading) (p : Panel) → disturbed r s p ≡ disturbed s r p
free_sym r s p = go (addressed_by r.verdict p) (addressed_by s.verdict p) (sets_named (command r.part) _) (sets_named (command s.part) _)
  where
    go : (a b x y : Bool) → ((a && b) && (x || y)) ≡ ((b && a) && (y || x))
    go true true true true = refl
    go true true true false = refl
    go true true false true = refl
    go true true false false = refl
    go true false x y = refl
    go false true x y = refl
    go false false x y = refl
