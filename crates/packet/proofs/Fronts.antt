-- A burst's front of three bytes or more, the count of its bytes up to one past the longest packet, and the XOR of all read as the
-- burst itself, but for the data, of which the front has the first. Assumes nothing.
use mathlib.Core.Path.{◌≡◌, refl, sym, ap, subst, ◌∙◌}
use mathlib.Core.Bool.{Bool, true, false}
use mathlib.Core.List.{List, [], ◌∷◌}
use Prim.Native.Nat.{ℕ, zero, suc, ◌+◌, ◌-◌, ◌≤◌, ◌<◌, min}
use native.Mathlib.Omega.{arith}
use borrow.Author.Tests.{eqb-true}
use lib.Dec.{eqb}
use lib.ListN.{length, take, drop, length-take, take-append-drop}
use lib.Seq.{take_all, take-nil, get_or-take}
use Rattle.std.proofs.lemmas.List.{drop-take}
use Rattle.lists.proofs.Sizes.{by_size}
use Rattle.xor.specs.Xor.{xor_all}
use Rattle.packet.specs.Edition.{head_size}
use Rattle.packet.specs.Packet.{longest, is_intact, verdict_by, verdict_of, data_of}
use Rattle.packet.specs.Reading.{seems_for, reading_of}
use Rattle.packet.specs.Front.{data_by, reading_by}
use Rattle.packet.specs.declared.Edition.{Edition}
use Rattle.packet.specs.declared.Verdict.{Verdict}
use Rattle.packet.proofs.EachEdition.{head_few}
use Rattle.packet.proofs.Packets.{sound}
use Rattle.packet.proofs.Readings.{same_reading, seems_alike}
use Rattle.packet.proofs.ByFront.{long_verdict}

-- A whole burst is its own front.
module _ (edition : Edition) (b : List ℕ) where
  pub whole_verdict : verdict_by edition b (length b) (xor_all b) ≡ verdict_of edition b
  unfolding verdict_of
  whole_verdict = refl

  -- the data by the burst's own verdict
  pub own_data : {v : Verdict} → v ≡ verdict_of edition b → data_by edition b v ≡ data_of edition b
  unfolding verdict_of data_of is_intact
  own_data e = ap (data_by edition b) e ∙ go (eqb (length b) 0) refl (is_intact edition b) refl
    where
      go : (none : Bool) → eqb (length b) 0 ≡ none → (t : Bool) → is_intact edition b ≡ t → data_by edition b (verdict_of edition b) ≡ data_of edition b
      go true z true is = absurd (omega (arith, (sound edition b is).least, eqb-true _ _ z))
      go true z false is = rw (z, is)
      go false z true is = rw (z, is)
      go false z false is = rw (z, is)

  pub whole_reading : reading_by edition b (length b) (xor_all b) ≡ reading_of edition b
  whole_reading = same_reading whole_verdict (own_data whole_verdict) refl

take_either : (m n : ℕ) (l : List ℕ) → take m (take n l) ≡ take n (take m l)
take_either zero zero l = refl
take_either zero (suc n) l = sym (take-nil (suc n))
take_either (suc m) zero l = refl
take_either (suc m) (suc n) [] = refl
take_either (suc m) (suc n) (x ∷ l) = ap (λ (k : List ℕ). x ∷ k) (take_either m n l)

module _ (edition : Edition) (n : ℕ) (three : 3 ≤ n) (b : List ℕ) where
  pub front_verdict : verdict_by edition (take n b) (min (length b) (longest + 1)) (xor_all b) ≡ verdict_of edition b
  front_verdict = by_size _ longest (length b) long fits ∙ whole_verdict edition b
    where
      long : longest < length b → verdict_by edition (take n b) (min (length b) (longest + 1)) (xor_all b) ≡ verdict_by edition b (length b) (xor_all b)
      long h = long_verdict edition (take n b) (min (length b) (longest + 1)) (xor_all b) (omega arith) ∙ sym (long_verdict edition b (length b) (xor_all b) h)

      fits : length b ≤ longest → verdict_by edition (take n b) (min (length b) (longest + 1)) (xor_all b) ≡ verdict_by edition b (length b) (xor_all b)
      fits h =
          let all : min (length b) (longest + 1) ≡ length b = omega arith in
          rw (all, get_or-take n b 0 0 (omega arith), get_or-take n b 1 0 (omega arith), get_or-take n b 2 0 (omega arith))

  pub front_data : (v : Verdict) → data_by edition (take n b) v ≡ take (n - head_size edition) (data_by edition b v)
  front_data Verdict.Empty = sym (take-nil (n - head_size edition))
  front_data (Verdict.Damaged damage) = sym (take-nil (n - head_size edition))
  front_data (Verdict.Intact i g m) =
      let h = head_size edition in
      let all : h + (n - h) ≡ n = omega (arith, head_few edition) in
      let behind : drop h (take n b) ≡ take (n - h) (drop h b) = subst (λ (k : ℕ). drop h (take k b) ≡ take (n - h) (drop h b)) all (drop-take h (n - h) b) in
      ap (take m) behind ∙ take_either m (n - h) (drop h b)

  pub front_seems : seems_for edition (take n b) ≡ seems_for edition b
  front_seems = by_size _ (length b) 3
      (λ h. ap (seems_for edition) (take_all n b (omega arith)))
      (λ h. sym (seems_alike edition (take n b) (drop n b) (simp length-take (omega arith))) ∙ ap (seems_for edition) (take-append-drop n b))
