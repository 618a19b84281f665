-- What is read of an intact burst, and of one that is too long, by its first bytes. Assumes nothing.
use mathlib.Core.Path.{◌≡◌}
use mathlib.Core.Bool.{true, false, and-false}
use mathlib.Core.List.{List, [], ◌∷◌, ◌++◌}
use Prim.Native.Nat.{ℕ, ◌-◌, ◌≤◌, ◌<◌}
use native.Mathlib.Omega.{arith}
use borrow.Author.Tests.{le-leb, lt-leb}
use lib.ListN.{length, take, drop, length-append}
use Rattle.std.specs.Prelude.{Option}
use Rattle.packet.specs.Edition.{head_size}
use Rattle.packet.specs.Packet.{shortest, longest, is_intact, data_of}
use Rattle.packet.specs.Reading.{Reading, seems_for, reading_of}
use Rattle.packet.specs.declared.Edition.{Edition}
use Rattle.packet.specs.declared.MonitorId.{MonitorId}
use Rattle.packet.specs.declared.Damage.{Damage}
use Rattle.packet.specs.declared.Verdict.{Verdict}
use Rattle.packet.proofs.EachEdition.{head_few}
use Rattle.packet.proofs.Damages.{too_long, damaged_verdict}

pub same_reading : {v u : Verdict} {d e : List ℕ} {a b : Option MonitorId} → v ≡ u → d ≡ e → a ≡ b
    → ◌≡◌ {A = Reading} (record { verdict = v; part = d; seems = a }) (record { verdict = u; part = e; seems = b })
same_reading p q s = λ t. record { verdict = p t; part = q t; seems = s t }

module _ (edition : Edition) (b : List ℕ) where
  pub intact_data : is_intact edition b ≡ true → data_of edition b ≡ take (length b - shortest edition) (drop (head_size edition) b)
  unfolding data_of
  intact_data e = rw e

  pub no_data : is_intact edition b ≡ false → data_of edition b ≡ []
  unfolding data_of
  no_data e = rw e

  long_broken : longest < length b → is_intact edition b ≡ false
  unfolding is_intact
  long_broken h = simp (lt-leb _ _ h, and-false)

  -- past 40 bytes
  pub long_reading : longest < length b → reading_of edition b ≡ record { verdict = Verdict.Damaged Damage.TooLong; part = []; seems = seems_for edition b }
  long_reading h =
      let broken = long_broken h in
      rw (damaged_verdict edition b (λ z. omega arith) broken, too_long edition b h, no_data broken)

-- whom a burst seems to be for, its first three bytes say
pub seems_alike : (edition : Edition) (p q : List ℕ) → 3 ≤ length p → seems_for edition (p ++ q) ≡ seems_for edition p
unfolding seems_for
seems_alike edition (x ∷ y ∷ z ∷ p) q h =
    let b = x ∷ y ∷ z ∷ p in
    let few = head_few edition in
    simp (le-leb (head_size edition) (length (b ++ q)) (simp length-append (omega arith)), le-leb (head_size edition) (length b) (omega arith))
seems_alike edition (x ∷ y ∷ []) q h = absurd (omega arith)
seems_alike edition (x ∷ []) q h = absurd (omega arith)
seems_alike edition [] q h = absurd (omega arith)
