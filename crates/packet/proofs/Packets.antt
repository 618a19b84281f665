-- What an intact burst has, and that a packet written out is intact and reads back. Assumes nothing.
use mathlib.Core.Path.{◌≡◌, refl, sym, ap₂, ◌∙◌}
use mathlib.Core.Bool.{Bool, true, false, cond}
use mathlib.Core.List.{List, [], ◌∷◌, ◌++◌}
use Prim.Native.Nat.{ℕ, ◌+◌, ◌-◌, ◌≤◌}
use native.Mathlib.Omega.{arith}
use borrow.Author.Tests.{le-leb, ne_eqb}
use lib.Dec.{eqb}
use lib.ListN.{length, get_or, drop, length-append}
use lib.Seq.{take-append_seam}
use Rattle.std.specs.Prelude.{Ok}
use Rattle.lists.specs.Lists.{laid_over}
use Rattle.xor.specs.Xor.{xor_all}
use Rattle.packet.specs.Edition.{group_bytes, group_on, head_size}
use Rattle.packet.specs.Packet.{monitor_id, group_id, is_intact, fault_by, verdict_of, data_of, packet_of, most_data, longest, shortest, written_of, output_of}
use Rattle.packet.specs.declared.Edition.{Edition}
use Rattle.packet.specs.declared.MonitorId.{MonitorId}
use Rattle.packet.specs.declared.GroupId.{GroupId}
use Rattle.packet.specs.declared.Verdict.{Verdict}
use Rattle.packet.proofs.EachEdition.{head_few}
use Rattle.packet.proofs.ByFront.{Whole, whole_by, intact_by_lem}
use Rattle.xor.proofs.Laws.{summed-zero}

-- what an intact burst has
abbrev pub Sound : Edition → List ℕ → Type 0
Sound edition burst = Whole edition (get_or burst 0 0) (length burst) (xor_all burst)

module _ (edition : Edition) (burst : List ℕ) where
  pub sound : is_intact edition burst ≡ true → Sound edition burst
  unfolding is_intact
  sound e = whole_by edition (get_or burst 0 0) (length burst) (xor_all burst) e

  pub intact : Sound edition burst → is_intact edition burst ≡ true
  unfolding is_intact
  intact s = intact_by_lem edition (get_or burst 0 0) (length burst) (xor_all burst) s

  pub intact-verdict : is_intact edition burst ≡ true
      → verdict_of edition burst ≡ Verdict.Intact (monitor_id (get_or burst 1 0)) (group_id (group_on edition (get_or burst 2 0))) (length burst - shortest edition)
  unfolding verdict_of is_intact
  intact-verdict e = let s = sound e in rw (ne_eqb (length burst) 0 (λ z. omega arith), e)

  -- no other burst has such a verdict
  pub verdict-intact : (i : MonitorId) (g : GroupId) (n : ℕ) → verdict_of edition burst ≡ Verdict.Intact i g n → is_intact edition burst ≡ true
  unfolding verdict_of is_intact
  verdict-intact i g n e = go (eqb (length burst) 0) (is_intact edition burst) refl e
    where
      packet : Verdict
      packet = Verdict.Intact (monitor_id (get_or burst 1 0)) (group_id (group_on edition (get_or burst 2 0))) (length burst - shortest edition)

      go : (z t : Bool) → is_intact edition burst ≡ t
          → cond z Verdict.Empty (cond t packet (Verdict.Damaged (fault_by edition (get_or burst 0 0) (length burst)))) ≡ Verdict.Intact i g n → is_intact edition burst ≡ true
      go z true is e = is
      go true false is e = let never : ◌≡◌ {A = ℕ} 0 1 = cc in absurd (omega arith)
      go false false is e = let never : ◌≡◌ {A = ℕ} 0 1 = cc in absurd (omega arith)

-- the group's bytes make up the head
pub group-length : (edition : Edition) (g : ℕ) → length (group_bytes edition g) + 2 ≡ head_size edition
group-length Edition.Sicp185 g = refl
group-length Edition.Sicp201 g = refl

-- behind a head stands the data, and in it the group as the edition carries it
head-group : (edition : Edition) (s i g : ℕ) (d rest : List ℕ) → group_on edition (get_or (s ∷ i ∷ ((group_bytes edition g ++ d) ++ rest)) 2 0) ≡ group_on edition g
head-group Edition.Sicp185 s i g d rest = refl
head-group Edition.Sicp201 s i g d rest = refl

head-dropped : (edition : Edition) (s i g : ℕ) (d rest : List ℕ) → drop (head_size edition) (s ∷ i ∷ ((group_bytes edition g ++ d) ++ rest)) ≡ d ++ rest
head-dropped Edition.Sicp185 s i g d rest = refl
head-dropped Edition.Sicp201 s i g d rest = refl

-- A packet written out is intact, and reads back as its ID, its group as the edition carries it, and its data.
module _ (edition : Edition) (id : MonitorId) (group : GroupId) (d : List ℕ) (short : length d ≤ most_data edition) where
  abbrev head : List ℕ
  head = (length d + shortest edition) ∷ id.0 ∷ (group_bytes edition group.0 ++ d)

  pub packet_length : length (packet_of edition id group d) ≡ length d + shortest edition
  unfolding packet_of
  packet_length = simp length-append (omega (arith, group-length edition group.0))

  pub packet_intact : is_intact edition (packet_of edition id group d) ≡ true
  unfolding packet_of
  packet_intact = intact edition _ (record {
    least = rw packet_length (omega arith);
    most = rw packet_length (omega (arith, head_few edition));
    size = sym packet_length;
    sum = summed-zero head;
  })

  pub packet_verdict : verdict_of edition (packet_of edition id group d) ≡ Verdict.Intact id (group_id (group_on edition group.0)) (length d)
  unfolding packet_of
  packet_verdict =
      let n : length (packet_of edition id group d) - shortest edition ≡ length d = rw packet_length (omega arith) in
      intact-verdict edition _ packet_intact ∙ ap₂ (λ (g m : ℕ). Verdict.Intact id (group_id g) m) (head-group edition (length d + shortest edition) id.0 group.0 d (xor_all head ∷ [])) n

  pub packet_data_lem : data_of edition (packet_of edition id group d) ≡ d
  unfolding packet_of data_of
  packet_data_lem =
      let n : length d + shortest edition - shortest edition ≡ length d = omega arith in
      let behind = head-dropped edition (length d + shortest edition) id.0 group.0 d (xor_all head ∷ []) in
      rw (packet_intact, packet_length, n, behind) (take-append_seam d _)

-- An output with room for any packet gets it, where its data fits.
module _ (edition : Edition) (out : List ℕ) (id : MonitorId) (group : GroupId) (d : List ℕ) (room : longest ≤ length out) (short : length d ≤ most_data edition) where
  pub packet_written_lem : written_of edition out d ≡ Ok (length d + shortest edition)
  unfolding written_of
  packet_written_lem = simp (le-leb _ _ room, le-leb _ _ short)

  pub packet_laid : output_of edition out id group d ≡ laid_over (packet_of edition id group d) out
  unfolding output_of
  packet_laid = simp (le-leb _ _ room, le-leb _ _ short)
