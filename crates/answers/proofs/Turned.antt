-- What a packet makes of one panel, and of the panels one after the other. Assumes nothing.
use mathlib.Core.Path.{◌≡◌, refl, sym, ap, ◌∙◌}
use mathlib.Core.Bool.{Bool, true, false, cond, ◌&&◌}
use mathlib.Core.List.{List, ◌++◌, map}
use Prim.Native.Nat.{ℕ, suc, ◌+◌, ◌<◌}
use native.Mathlib.Omega.{arith}
use lib.ListN.{length, get_or, take, drop, set, length-map}
use Rattle.std.proofs.lemmas.List.{get_or-map}
use Rattle.settings.specs.Settings.{byte_count}
use Rattle.packet.specs.declared.GroupId.{GroupId}
use Rattle.packet.specs.declared.MonitorId.{MonitorId}
use Rattle.panels.specs.declared.Panel.{Panel}
use Rattle.panels.specs.Wall.{Wall, blank}
use Rattle.panels.specs.Addressed.{reaches}
use Rattle.lists.proofs.Both.{both}
use Rattle.lists.proofs.Places.{store, from_seam}
use Rattle.answers.specs.declared.Names.{Names}
use Rattle.answers.specs.Judged.{Command, set_of, judge, takes, stored, held_then, panel_after}
use Rattle.answers.specs.Played.{turned}
use Rattle.answers.specs.Turn.{is_stored}
use Rattle.answers.proofs.Orders.{taken_many, judge-set, judge_not}

-- a panel that would be turned into itself stays, turned or not
pub either_way : (t : Bool) {q p : Panel} → q ≡ p → cond t q p ≡ p
either_way true e = e
either_way false e = refl

pub stays : (i : MonitorId) (g : GroupId) (c : Command) (p : Panel) → reaches i g p ≡ false → turned i g c p ≡ p
unfolding turned
stays i g c p r = rw r

-- a set: stored where the panel is addressed and takes it, and nowhere else
module _ (n : Names) (row : ℕ) (vs : List ℕ) (p : Panel) where
  pub set-stored : is_stored n row vs p ≡ true → turned n.id n.group (set_of row vs) p ≡ stored row (held_then row vs p) p
  unfolding turned is_stored
  set-stored e = let (r, t) = both (reaches n.id n.group p) _ e in rw (r, judge-set (set_of row vs) row vs p refl t)

  pub set_not : is_stored n row vs p ≡ false → turned n.id n.group (set_of row vs) p ≡ p
  unfolding turned is_stored
  set_not e = go (reaches n.id n.group p) refl e
    where
      go : (t : Bool) → reaches n.id n.group p ≡ t → (t && takes row vs p) ≡ false → cond t (panel_after (judge (set_of row vs) p) p) p ≡ p
      go true r n = rw (judge_not (set_of row vs) row vs p refl n)
      go false r n = refl

pub stored_many : (n : Names) (row : ℕ) (d : List ℕ) (p : Panel) → 0 < length d → is_stored n row (drop 1 d) p ≡ true → length d ≡ byte_count row + 1
unfolding is_stored
stored_many n row d p h e = taken_many row d p h (both (reaches n.id n.group p) _ e).1

-- The pass over the table: the first k places are turned, the others are still to come.
pub turn_next : (f : Panel → Panel) (w : Wall) (k : ℕ) → k < length w
    → let l = take k (map f w) ++ drop k w in set l k (f (get_or l k blank)) ≡ take (suc k) (map f w) ++ drop (suc k) w
turn_next f w k h =
    let n = length-map w f in
    let here = ap f (from_seam (map f w) w k k blank (omega arith) (omega arith) (omega arith)) ∙ sym (get_or-map f w k blank blank h) in
    rw here (store (map f w) w k blank (omega arith) h)
