-- What is wrong with a burst. Assumes nothing.
use Prim.Native.Nat.{ℕ, suc}
use mathlib.Core.Path.{◌≡◌, refl, sym, ap, ◌∙◌}
use mathlib.Core.Bool.{Bool, true, false, cond, not, and-true, ◌&&◌, ◌||◌}
use native.Mathlib.Omega.{arith}
use borrow.Author.Tests.{leb-true, leb-false, lt-ltb, le-ltb}
use lib.Dec.{leb, ltb, eqb}
use lib.ListN.{length, get_or}
use Rattle.std.specs.Prelude.{None, Some}
use Rattle.packet.specs.declared.Edition.{Edition}
use Rattle.packet.specs.declared.Damage.{Damage}
use Rattle.xor.specs.Xor.{xor_all}
use Rattle.packet.specs.Packet.{shortest, is_intact, damage_of, damage_number, damage_in, verdict_of, data_of}
use Rattle.packet.specs.Reading.{seems_for, reading_of}
use Rattle.packet.proofs.Packets.{intact}
use Rattle.packet.proofs.Spoiled.{spoiled-told as told}
use Rattle.packet.proofs.Damages.{fault_of, damage-said}
use Rattle.answers.specs.Played.{answered}
use Rattle.host.specs.Machine.{telling, step}
use Rattle.line.specs.Streams.{marked}
use Rattle.demands.specs.Damage.{Told, most_too_short, Kinds, NoDamage, SpoiledTold, AnyLength, before, Unchanged, HostUnchanged}
use Rattle.demands.proofs.HostMoves.{heard_by_lem}

pub told_is : Told
told_is edition b = damage-said edition b

short : (n m : ℕ) → leb n m ≡ ltb n (suc m)
short n m = go (leb n m) refl
  where
    go : (t : Bool) → leb n m ≡ t → leb n m ≡ ltb n (suc m)
    go true e = e ∙ sym (lt-ltb n (suc m) (omega (arith, leb-true n m e)))
    go false e = e ∙ sym (le-ltb n (suc m) (omega (arith, leb-false n m e)))

too_short : (edition : Edition) (n : ℕ) → leb n (most_too_short edition) ≡ ltb n (shortest edition)
too_short Edition.Sicp185 n = short n 2
too_short Edition.Sicp201 n = short n 3

pub kinds : Kinds
unfolding damage_of
kinds edition b = rw (damage-said edition b, too_short edition (length b)) (go (eqb (length b) 0) (leb (shortest edition) (length b)) refl (leb (length b) 40) refl (eqb (get_or b 0 0) (length b)) (eqb (xor_all b) 0))
  where
    go : (none least : Bool) → leb (shortest edition) (length b) ≡ least → (most : Bool) → leb (length b) 40 ≡ most → (size sum : Bool)
        → damage_number (cond (none || (least && most && size && sum)) None (Some (cond (ltb (length b) (shortest edition)) Damage.TooShort (cond (ltb 40 (length b)) Damage.TooLong (cond (not size) Damage.Size Damage.Checksum)))))
        ≡ cond none 0 (cond (ltb (length b) (shortest edition)) 1 (cond (ltb 40 (length b)) 2 (cond (not size) 3 (cond sum 0 4))))
    go true least el most em size sum = refl
    go false false el most em size sum = rw (lt-ltb (length b) (shortest edition) (leb-false _ _ el))
    go false true el false em size sum = rw (le-ltb (length b) (shortest edition) (leb-true _ _ el), lt-ltb 40 (length b) (leb-false _ _ em))
    go false true el true em false sum = rw (le-ltb (length b) (shortest edition) (leb-true _ _ el), le-ltb 40 (length b) (leb-true _ _ em))
    go false true el true em true false = rw (le-ltb (length b) (shortest edition) (leb-true _ _ el), le-ltb 40 (length b) (leb-true _ _ em))
    go false true el true em true true = rw (le-ltb (length b) (shortest edition) (leb-true _ _ el), le-ltb 40 (length b) (leb-true _ _ em))

-- a damage has a number
numbered : (d : Damage) → eqb (damage_number (Some d)) 0 ≡ false
numbered Damage.TooShort = refl
numbered Damage.TooLong = refl
numbered Damage.Size = refl
numbered Damage.Checksum = refl

pub no_damage : NoDamage
unfolding damage_of is_intact
no_damage edition b = rw (damage-said edition b) (go (eqb (length b) 0 || is_intact edition b))
  where
    go : (t : Bool) → eqb (damage_number (cond t None (Some (fault_of edition b)))) 0 ≡ t
    go true = refl
    go false = numbered (fault_of edition b)

pub spoiled-told : SpoiledTold
spoiled-told edition p s intact spoils none = told edition s p intact spoils (sym (damage-said edition _) ∙ none)

pub unchanged : Unchanged
unfolding answered verdict_of is_intact data_of seems_for
unchanged edition w b = go edition (eqb (length b) 0) refl (is_intact edition b) refl
  where
    go : (edition : Edition) (none : Bool) → eqb (length b) 0 ≡ none → (t : Bool) → is_intact edition b ≡ t → answered w (reading_of edition b) ≡ before edition w b
    go edition true z t e = rw z
    go Edition.Sicp185 false z true e = rw (z, e)
    go Edition.Sicp201 false z true e = rw (z, e)
    go Edition.Sicp185 false z false e = rw (z, e, and-true (leb 2 (length b)))
    go Edition.Sicp201 false z false e = rw (z, e)

pub any_length : AnyLength
any_length = marked

pub host_unchanged : HostUnchanged
unfolding step
host_unchanged s b = ap (telling (damage_in (reading_of s.edition b).verdict)) (heard_by_lem s b)
