-- What a burst has and what is wrong with it, by its first byte, the count of its bytes and the XOR of all; and the verdict on it by its
-- front. Assumes nothing.
use mathlib.Core.Path.{◌≡◌, refl, sym, ap}
use mathlib.Core.Bool.{Bool, true, false, false≢true, cond, and-false, ◌&&◌}
use mathlib.Core.List.{List}
use Prim.Native.Nat.{ℕ, ◌-◌, ◌≤◌, ◌<◌}
use native.Mathlib.Omega.{arith}
use borrow.Author.Tests.{leb-true, le-leb, lt-leb, le-ltb, lt-ltb, eq-eqb, ne_eqb, eqb-true}
use lib.ListN.{get_or}
use Rattle.std.specs.Prelude.{Option, Some, None, is_some}
use Rattle.packet.specs.Edition.{group_on}
use Rattle.packet.specs.Packet.{monitor_id, group_id, shortest, longest, intact_by, fault_by, damage_by, verdict_by}
use Rattle.packet.specs.declared.Edition.{Edition}
use Rattle.packet.specs.declared.Damage.{Damage}
use Rattle.packet.specs.declared.Verdict.{Verdict}
use Rattle.packet.proofs.EachEdition.{head_few}

-- what an intact burst has
pub record Whole (edition : Edition) (first count total : ℕ) : Type 0 where
  pub least : shortest edition ≤ count
  pub most : count ≤ longest
  pub size : first ≡ count
  pub sum : total ≡ 0

pub four : (a b c d : Bool) → (a && b && c && d) ≡ true → (a ≡ true) × (b ≡ true) × (c ≡ true) × (d ≡ true)
four true true true true e = (refl, refl, refl, refl)
four true true true false e = absurd (false≢true e)
four true true false d e = absurd (false≢true e)
four true false c d e = absurd (false≢true e)
four false b c d e = absurd (false≢true e)

module _ (edition : Edition) (first count total : ℕ) where
  pub whole_by : intact_by edition first count total ≡ true → Whole edition first count total
  whole_by e =
      let t = four _ _ _ _ e in
      record { least = leb-true _ _ t.0; most = leb-true _ _ t.1; size = eqb-true _ _ t.2; sum = eqb-true _ _ t.3 }

  pub intact_by_lem : Whole edition first count total → intact_by edition first count total ≡ true
  intact_by_lem s = rw (le-leb _ _ s.least, le-leb _ _ s.most, eq-eqb _ _ s.size, eq-eqb _ _ s.sum)

  -- a burst that is not empty and has no damage is intact
  pub passed_by : (count ≡ 0 → ⊥) → damage_by edition first count total ≡ None → Whole edition first count total
  passed_by some e = whole_by (go (intact_by edition first count total) (rw (ne_eqb _ _ some) at e))
    where
      go : (t : Bool) → cond t None (Some (fault_by edition first count)) ≡ None → t ≡ true
      go true e = refl
      go false e = absurd (false≢true (sym (ap is_some e)))

-- the verdict that goes with a damage, or with none
abbrev pub verdict_told : Edition → List ℕ → ℕ → Option Damage → Verdict
verdict_told edition front count None = Verdict.Intact (monitor_id (get_or front 1 0)) (group_id (group_on edition (get_or front 2 0))) (count - shortest edition)
verdict_told edition front count (Some damage) = Verdict.Damaged damage

-- the verdict on a burst of which this is the front
pub told_by : (edition : Edition) (front : List ℕ) (count total : ℕ) → (count ≡ 0 → ⊥)
    → verdict_told edition front count (damage_by edition (get_or front 0 0) count total) ≡ verdict_by edition front count total
told_by edition front count total some = rw (ne_eqb _ _ some) (go (intact_by edition (get_or front 0 0) count total))
  where
    go : (t : Bool)
        → verdict_told edition front count (cond t None (Some (fault_by edition (get_or front 0 0) count)))
        ≡ cond t (verdict_told edition front count None) (Verdict.Damaged (fault_by edition (get_or front 0 0) count))
    go true = refl
    go false = refl

-- more bytes than a packet may have are too many, whatever they are
pub too_long_by : (edition : Edition) (first count : ℕ) → longest < count → fault_by edition first count ≡ Damage.TooLong
too_long_by edition first count h = rw (le-ltb count (shortest edition) (omega (arith, head_few edition)), lt-ltb _ _ h)

pub long_verdict : (edition : Edition) (front : List ℕ) (count sum : ℕ) → longest < count → verdict_by edition front count sum ≡ Verdict.Damaged Damage.TooLong
long_verdict edition front count sum h =
    rw (ne_eqb count 0 (λ z. omega arith), lt-leb _ _ h, and-false, too_long_by edition (get_or front 0 0) count h)
