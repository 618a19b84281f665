-- The table calls keep tables well-formed. Assumes nothing.
use mathlib.Core.Path.{◌≡◌, refl, ap, ◌∙◌}
use mathlib.Core.Bool.{Bool, true, false, cond}
use mathlib.Core.List.{[], ◌∷◌, ◌++◌, append-nil}
use Prim.Native.Nat.{ℕ, zero, suc, ◌≤◌, ◌<◌}
use native.Mathlib.Omega.{arith}
use borrow.Author.Tests.{eqb-false, leb-false}
use lib.Dec.{eqb, leb}
use lib.ListN.{length, length-append, length-take, length-drop}
use Rattle.tiling.specs.declared.Kind.{Kind}
use Rattle.settings.specs.declared.Profile.{Profile}
use Rattle.std.specs.Prelude.{Option, Some, None, is_some, Result, IsOk}
use Rattle.settings.specs.Profiles.{profile_with}
use Rattle.tiling.specs.Kinds.{kind_with}
use Rattle.packet.specs.declared.MonitorId.{MonitorId}
use Rattle.packet.specs.declared.GroupId.{GroupId}
use Rattle.panels.specs.declared.Table.{Table}
use Rattle.table_calls.specs.declared.Refusal.{Refusal}
use Rattle.panels.specs.Wall.{Wall, table_of, panels_of, place_of, most_panels}
use Rattle.table_calls.specs.Calls.{fresh_of, unless, add_refusal, added, without, removed}
use Rattle.panels.specs.WellFormed.{Absent, GoodWall, WellFormed}
use Rattle.panels.proofs.Laws.{panels_of_table}
use Rattle.panels.proofs.Formed.{formed, nowhere_absent, good_snoc, fresh-good}

absent_without : (i : MonitorId) (k : ℕ) (w : Wall) → Absent i w → Absent i (without (Some k) w)
absent_without i zero [] a = tt
absent_without i (suc k) [] a = tt
absent_without i zero (p ∷ w) (n, a) = a
absent_without i (suc k) (p ∷ w) (n, a) = (n, absent_without i k w a)

good-without : (k : ℕ) (w : Wall) → GoodWall w → GoodWall (without (Some k) w)
good-without zero [] good = tt
good-without (suc k) [] good = tt
good-without zero (p ∷ w) (g, a, good) = good
good-without (suc k) (p ∷ w) (g, a, good) = (g, absent_without p.id k w a, good-without k w good)

-- what add has found where it refuses nothing
pub record MayAdd (w : Wall) (i : MonitorId) (g : GroupId) : Type 0 where
  pub room : length w < most_panels
  pub named : i.0 ≡ 0 → ⊥
  pub new : place_of i w ≡ None
  pub grouped : g.0 ≡ 0 → ⊥

pub may_add : (w : Wall) (i : MonitorId) (g : GroupId) (n k : ℕ) → add_refusal w i g n k ≡ None → MayAdd w i g
unfolding add_refusal
may_add w i g n k e = go (leb most_panels (length w)) (eqb i.0 0) (place_of i w) (eqb g.0 0) _ refl refl refl refl e
  where
    go : (a b : Bool) (q : Option ℕ) (c : Bool) (r : Option Refusal) → leb most_panels (length w) ≡ a → eqb i.0 0 ≡ b → place_of i w ≡ q → eqb g.0 0 ≡ c
        → cond a (Some Refusal.Full) (cond b (Some Refusal.IdZero) (cond (is_some q) (Some Refusal.IdTaken) (cond c (Some Refusal.GroupZero) r))) ≡ None → MayAdd w i g
    go true b q c r ea eb eq ec n = let z : ◌≡◌ {A = ℕ} 0 1 = cc in absurd (omega arith)
    go false true q c r ea eb eq ec n = let z : ◌≡◌ {A = ℕ} 0 1 = cc in absurd (omega arith)
    go false false (Some k) c r ea eb eq ec n = let z : ◌≡◌ {A = ℕ} 0 1 = cc in absurd (omega arith)
    go false false None true r ea eb eq ec n = let z : ◌≡◌ {A = ℕ} 0 1 = cc in absurd (omega arith)
    go false false None false r ea eb eq ec n =
        record { room = leb-false _ _ ea; named = eqb-false _ _ eb; new = eq; grouped = eqb-false _ _ ec }

-- a panel more, or none
good_more : (w : Wall) (i : MonitorId) (g : GroupId) (numbered : Option Profile) (kinded : Option Kind) → length w ≤ most_panels → GoodWall w → MayAdd w i g
    → WellFormed (table_of (w ++ fresh_of numbered kinded i g))
good_more w i g (Some profile) (Some kind) few good m =
    formed _ (simp length-append (omega arith)) (good_snoc w _ good (fresh-good i g profile kind m.named m.grouped) (nowhere_absent i 0 w m.new))
good_more w i g (Some profile) None few good m = rw append-nil (formed w few good)
good_more w i g None kinded few good m = rw append-nil (formed w few good)

good-added : (w : Wall) (i : MonitorId) (g : GroupId) (n k : ℕ) (r : Option Refusal) → length w ≤ most_panels → GoodWall w → add_refusal w i g n k ≡ r
    → WellFormed (table_of (cond (is_some r) w (w ++ fresh_of (profile_with n) (kind_with k) i g)))
good-added w i g n k None few good e = good_more w i g (profile_with n) (kind_with k) few good (may_add w i g n k e)
good-added w i g n k (Some refusal) few good e = formed w few good

pub added_formed : {t : Table} → WellFormed t → (i : MonitorId) (g : GroupId) (n k : ℕ) → WellFormed (table_of (added (panels_of t) i g n k))
unfolding added
added_formed f i g n k = good-added _ i g n k _ f.few f.good refl

-- a panel that is added to a wall where nothing refuses it
pub record Adds (r : Result Unit Refusal) (u : Table) (v : Wall) : Type 0 where
  pub answered : IsOk r
  pub holds : panels_of u ≡ v
  pub formed : WellFormed u

pub adds : {r : Result Unit Refusal} {t u : Table} {w v : Wall} (i : MonitorId) (g : GroupId) (n k : ℕ) → WellFormed t → panels_of t ≡ w
    → add_refusal w i g n k ≡ None → added w i g n k ≡ v
    → r ≡ unless (add_refusal (panels_of t) i g n k) tt → u ≡ table_of (added (panels_of t) i g n k) → Adds r u v
adds i g n k f e none is answer table = record {
  answered = rw (answer, e, none) refl;
  holds = ap panels_of table ∙ panels_of_table _ ∙ rw e is;
  formed = rw table (added_formed f _ _ _ _);
}

good-removed : (w : Wall) (q : Option ℕ) → length w ≤ most_panels → GoodWall w → WellFormed (table_of (without q w))
good-removed w None few good = formed w few good
good-removed w (Some k) few good = formed _ (simp (length-append, length-take, length-drop) (omega arith)) (good-without k w good)

pub removed_formed : {t : Table} → WellFormed t → (i : MonitorId) → WellFormed (table_of (removed (panels_of t) i))
unfolding removed
removed_formed {t} f i = good-removed (panels_of t) (place_of i (panels_of t)) f.few f.good
