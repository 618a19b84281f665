-- An intact burst with one byte changed, lost or added anywhere is damaged. A changed byte spoils the XOR. A lost or added
-- one spoils the count, unless it is the size itself: then the XOR is the size, which is not 0. Assumes nothing.
use mathlib.Core.Path.{◌≡◌, refl}
use mathlib.Core.Bool.{Bool, true, false}
use mathlib.Core.List.{List, [], ◌∷◌}
use Prim.Native.Nat.{ℕ, zero, suc, ◌≤◌}
use native.Mathlib.Omega.{arith}
use lib.ListN.{length, length-append, length-take, length-drop, length-set}
use Rattle.std.specs.Prelude.{None}
use Rattle.xor.specs.Xor.{xor_all}
use Rattle.packet.specs.Packet.{is_intact, damage_of, verdict_of}
use Rattle.packet.specs.Spoiled.{Spoiling, changed, lost, added, spoiled, Spoils}
use Rattle.packet.specs.declared.Edition.{Edition}
use Rattle.packet.specs.declared.Verdict.{Verdict}
use Rattle.xor.proofs.Laws.{⊕_zero_eq, one-changed}
use Rattle.packet.proofs.EachEdition.{head_few}
use Rattle.packet.proofs.Packets.{Sound, sound}
use Rattle.packet.proofs.Damages.{fault_of, passed, damaged_verdict}

-- on no edition
not_sound : {edition other : Edition} (s : Spoiling) (b : List ℕ) → Sound edition b → Spoils s b → Sound other (spoiled s b) → ⊥
unfolding spoiled Spoils xor_all
not_sound (changed i v) b ok (h, other) then = other (one-changed b i v h ok.sum then.sum)
not_sound (lost i) [] ok h then = absurd (omega arith)
not_sound (lost zero) (x ∷ xs) ok h then = omega (arith, ok.size, then.sum, ⊕_zero_eq x (xor_all xs) ok.sum)
not_sound (lost (suc i)) (x ∷ xs) ok h then = omega (arith, h, ok.size, simp (length-append, length-take, length-drop) at then.size)
not_sound (added zero v) b ok h then = omega (arith, then.size, ok.sum, ⊕_zero_eq v (xor_all b) then.sum)
not_sound (added (suc i) v) [] ok h then = absurd (omega (arith, h))
not_sound (added (suc i) v) (x ∷ xs) ok h then = omega (arith, h, ok.size, simp (length-append, length-take, length-drop) at then.size)

-- at most one byte is gone
length-spoiled : (s : Spoiling) (b : List ℕ) → Spoils s b → length b ≤ suc (length (spoiled s b))
unfolding spoiled Spoils
length-spoiled (changed i v) b h = simp length-set (omega arith)
length-spoiled (lost i) b h = simp (length-append, length-take, length-drop) (omega arith)
length-spoiled (added i v) b h = simp (length-append, length-take, length-drop) (omega arith)

module _ (edition : Edition) (s : Spoiling) (b : List ℕ) (e : is_intact edition b ≡ true) (h : Spoils s b) where
  some : length (spoiled s b) ≡ 0 → ⊥
  some z = omega (arith, sound edition b e, head_few edition, length-spoiled s b h)

  pub spoiled_broken : (other : Edition) → is_intact other (spoiled s b) ≡ false
  spoiled_broken other = go (is_intact other (spoiled s b)) refl
    where
      go : (t : Bool) → is_intact other (spoiled s b) ≡ t → is_intact other (spoiled s b) ≡ false
      go true f = absurd (not_sound s b (sound edition b e) h (sound other (spoiled s b) f))
      go false f = f

  pub spoiled-told : damage_of edition (spoiled s b) ≡ None → ⊥
  spoiled-told none = not_sound s b (sound edition b e) h (passed edition _ some none)

  pub spoiled_damaged : verdict_of edition (spoiled s b) ≡ Verdict.Damaged (fault_of edition (spoiled s b))
  spoiled_damaged = damaged_verdict edition _ some (spoiled_broken edition)
