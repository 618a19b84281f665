-- A burst sent again: panel by panel, and each panel by itself. Assumes nothing.
use Prim.Native.Nat.{ℕ, ◌<◌}
use mathlib.Core.Bool.{Bool, true, false, ◌&&◌}
use mathlib.Core.Path.{◌≡◌, refl, sym, ap, ◌∙◌}
use mathlib.Core.List.{List, ◌∷◌, map}
use lib.ListN.{length, get_or}
use Rattle.lists.proofs.Mapped.{map_alike}
use Rattle.settings.specs.Settings.{values_of}
use Rattle.models.specs.Models.{filled}
use Rattle.models.proofs.Filled.{filled-again}
use Rattle.packet.specs.declared.Edition.{Edition}
use Rattle.packet.specs.declared.MonitorId.{MonitorId}
use Rattle.packet.specs.declared.GroupId.{GroupId}
use Rattle.packet.specs.declared.Verdict.{Verdict}
use Rattle.packet.specs.Reading.{Reading, reading_of}
use Rattle.panels.specs.declared.Panel.{Panel}
use Rattle.panels.specs.Wall.{Wall, blank, panels_of}
use Rattle.panels.specs.Addressed.{reaches}
use Rattle.panels.specs.WellFormed.{GoodPanel}
use Rattle.panels.proofs.Formed.{good_at}
use Rattle.answers.specs.Judged.{Command, get_of, set_of, unavailable, held_then, takes, judge, stored}
use Rattle.answers.specs.Played.{turned}
use Rattle.answers.proofs.Orders.{taken-allowed}
use Rattle.answers.proofs.Formed.{stored_own, stored-twice}
use Rattle.answers.proofs.Turned.{stays}
use Rattle.demands.proofs.Each.{changed_by, changed, changed_by_all, session-each, not_addressed, same-addressed}
use Rattle.demands.specs.Apart.{addressed_by}
use Rattle.demands.specs.Again.{Again, done, again, other, SentAgain}

-- A panel that a packet turned is not turned further by it.
module _ (i : MonitorId) (g : GroupId) (p : Panel) (good : GoodPanel p) where
  unmoved : (c : Command) → turned i g c p ≡ p → turned i g c (turned i g c p) ≡ turned i g c p
  unmoved c e = ap (turned i g c) e

  -- it has the values: it takes them once more, which changes nothing, or it takes them no longer
  set-again : (row : ℕ) (vs : List ℕ) → reaches i g p ≡ true → takes row vs p ≡ true
      → let q = stored row (held_then row vs p) p in turned i g (set_of row vs) q ≡ q
  unfolding turned judge
  set-again row vs r a = go (takes row vs q) refl
    where
      held : List ℕ
      held = held_then row vs p

      q : Panel
      q = stored row held p

      there : reaches i g q ≡ true
      there = unfold stored reaches in r

      -- the wall that it was left is the wall that it has
      same-held : held_then row vs q ≡ held
      same-held =
          ap (λ (l : List ℕ). filled row (get_or l 3 0) vs) (stored_own row held p (taken-allowed row vs p a) good.full)
          ∙ filled-again row (get_or (values_of row p.values) 3 0) vs

      go : (t : Bool) → takes row vs q ≡ t → turned i g (set_of row vs) q ≡ q
      go true t = rw (there, t, same-held) (stored-twice row held p (taken-allowed row vs p a) good.full)
      go false t = rw (there, t)

  asked_again : (c : Command) → reaches i g p ≡ true → turned i g c (turned i g c p) ≡ turned i g c p
  unfolding turned judge
  asked_again (get_of row) r = unmoved (get_of row) (rw r)
  asked_again unavailable r = unmoved unavailable (rw r)
  asked_again (set_of row vs) r = go (takes row vs p) refl
    where
      go : (t : Bool) → takes row vs p ≡ t → turned i g (set_of row vs) (turned i g (set_of row vs) p) ≡ turned i g (set_of row vs) p
      go false a = unmoved (set_of row vs) (rw (r, a))
      go true a =
          let once : turned i g (set_of row vs) p ≡ stored row (held_then row vs p) p = rw (r, a) in
          ap (turned i g (set_of row vs)) once ∙ set-again row vs r a ∙ sym once

  turned-again : (c : Command) → turned i g c (turned i g c p) ≡ turned i g c p
  turned-again c = go (reaches i g p) refl
    where
      go : (t : Bool) → reaches i g p ≡ t → turned i g c (turned i g c p) ≡ turned i g c p
      go true r = asked_again c r
      go false r = unmoved c (stays i g c p r)

changed-again : (v : Verdict) (d : List ℕ) (p : Panel) → GoodPanel p → changed_by v d (changed_by v d p) ≡ changed_by v d p
changed-again Verdict.Empty d p good = refl
changed-again (Verdict.Damaged damage) d p good = refl
changed-again (Verdict.Intact i g n) d p good = turned-again i g p good _

-- Nor after a burst that does not address it as well.
among_others : (b c : Reading) (q : Panel) → (addressed_by b.verdict q && addressed_by c.verdict q) ≡ false → changed b q ≡ q
    → changed b (changed c q) ≡ changed c q
among_others b c q apart settled = go (addressed_by b.verdict q) refl
  where
    go : (t : Bool) → addressed_by b.verdict q ≡ t → changed b (changed c q) ≡ changed c q
    go true e =
        let still = not_addressed c.verdict c.part q (rw e at apart) in
        ap (changed b) still ∙ settled ∙ sym still
    go false e = not_addressed b.verdict b.part (changed c q) (same-addressed b.verdict c q ∙ e)

module _ (edition : Edition) (w : Wall) (b : List ℕ) (k : ℕ) (inside : k < length w) where
  abbrev p : Panel
  p = get_or w k blank

  abbrev read : List ℕ → Reading
  read = reading_of edition

  sent_among : {bs others : List (List ℕ)} → Again edition w b bs others → (q : Panel) → ((v : Verdict) → addressed_by v q ≡ addressed_by v p)
      → changed (read b) q ≡ q → changed_by_all (map read bs) q ≡ changed_by_all (map read others) q
  sent_among done q alike settled = refl
  sent_among (again {bs} rest) q alike settled = ap (changed_by_all (map read bs)) settled ∙ sent_among rest q alike settled
  sent_among (other c apart rest) q alike settled =
      sent_among rest (changed (read c) q) (λ v. same-addressed v (read c) q ∙ alike v)
      (among_others (read b) (read c) q (rw (alike (read b).verdict, alike (read c).verdict) (apart k inside)) settled)

pub sent-again : SentAgain
sent-again edition t f b bs others sent =
    let w = panels_of t in
    let r = reading_of edition b in
    session-each edition w (b ∷ bs)
    ∙ map_alike _ _ blank w
    (λ k h.
    let p = get_or w k blank in
    sent_among edition w b k h sent (changed r p) (λ v. same-addressed v r p) (changed-again r.verdict r.part p (good_at w f.good k h)))
    ∙ sym (session-each edition w (b ∷ others))
