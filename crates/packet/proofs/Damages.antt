-- What a burst's damage says of it: an intact burst has none, and another that is not empty has some. Assumes nothing.
use mathlib.Core.Path.{◌≡◌, refl}
use mathlib.Core.Bool.{Bool, true, false, cond, ◌||◌, or-true}
use mathlib.Core.List.{List}
use Prim.Native.Nat.{ℕ, ◌-◌, ◌<◌}
use borrow.Author.Tests.{ne_eqb}
use lib.Dec.{eqb}
use lib.ListN.{length, get_or}
use Rattle.std.specs.Prelude.{Some, None}
use Rattle.xor.specs.Xor.{xor_all}
use Rattle.packet.specs.Packet.{monitor_id, group_id, shortest, longest, is_intact, fault_by, damage_of, verdict_of, damage_in}
use Rattle.packet.specs.Edition.{group_on}
use Rattle.packet.specs.declared.Edition.{Edition}
use Rattle.packet.specs.declared.Damage.{Damage}
use Rattle.packet.specs.declared.Verdict.{Verdict}
use Rattle.packet.proofs.ByFront.{passed_by, too_long_by}
use Rattle.packet.proofs.Packets.{Sound}

-- the fault of a burst that is not intact
abbrev pub fault_of : Edition → List ℕ → Damage
fault_of edition b = fault_by edition (get_or b 0 0) (length b)

module _ (edition : Edition) (b : List ℕ) where
  pub undamaged : is_intact edition b ≡ true → damage_of edition b ≡ None
  unfolding damage_of is_intact
  undamaged e = rw (e, or-true)

  pub damaged : (length b ≡ 0 → ⊥) → is_intact edition b ≡ false → damage_of edition b ≡ Some (fault_of edition b)
  unfolding damage_of is_intact
  damaged some e = rw (ne_eqb _ _ some, e)

  -- a burst that is not empty
  pub passed : (length b ≡ 0 → ⊥) → damage_of edition b ≡ None → Sound edition b
  unfolding damage_of
  passed some e = passed_by edition (get_or b 0 0) (length b) (xor_all b) some e

  pub damaged_verdict : (length b ≡ 0 → ⊥) → is_intact edition b ≡ false → verdict_of edition b ≡ Verdict.Damaged (fault_of edition b)
  unfolding verdict_of is_intact
  damaged_verdict some e = rw (ne_eqb _ _ some, e)

  -- over 40 bytes
  pub too_long : longest < length b → fault_of edition b ≡ Damage.TooLong
  too_long h = too_long_by edition (get_or b 0 0) (length b) h

  -- the verdict says the damage
  pub damage-said : damage_in (verdict_of edition b) ≡ damage_of edition b
  unfolding verdict_of damage_of is_intact
  damage-said = go (eqb (length b) 0) (is_intact edition b)
    where
      go : (none t : Bool)
          → damage_in (cond none Verdict.Empty (cond t (Verdict.Intact (monitor_id (get_or b 1 0)) (group_id (group_on edition (get_or b 2 0))) (length b - shortest edition)) (Verdict.Damaged (fault_of edition b))))
          ≡ cond (none || t) None (Some (fault_of edition b))
      go true t = refl
      go false true = refl
      go false false = refl
