-- The wrong boxes. Assumes nothing.
use Prim.Native.Nat.{ℕ, ◌*◌}
use mathlib.Core.Bool.{Bool, true, false}
use mathlib.Core.Logic.{inl}
use mathlib.Core.Path.{◌≡◌, refl, sym, ap, ◌∙◌}
use mathlib.Core.List.{List, [], ◌∷◌, ◌++◌, map, flatten}
use native.Mathlib.Omega.{arith}
use lib.ListN.{length, get_or, length-append}
use Rattle.settings.specs.Settings.{settings, allowed_by_row, fresh_values, within, all_allowed}
use Rattle.codes.specs.Found.{found_from}
use Rattle.models.specs.Models.{filled}
use Rattle.lists.specs.Lists.{laid_at, same}
use Rattle.packet.specs.declared.Edition.{Edition}
use Rattle.packet.specs.declared.Damage.{Damage}
use Rattle.packet.specs.declared.Verdict.{Verdict}
use Rattle.xor.specs.Xor.{◌⊕◌, xor_all}
use Rattle.packet.specs.Packet.{is_intact, verdict_of, data_of, packet_of}
use Rattle.packet.specs.Reading.{seems_for, reading_of}
use Rattle.packet.specs.Spoiled.{Spoiling, spoiled, Spoils}
use Rattle.packet.proofs.Spoiled.{spoiled_broken, spoiled_damaged}
use Rattle.panels.specs.Wall.{Wall, place_from}
use Rattle.packet.specs.Answered.{is_heard}
use Rattle.panels.specs.Addressed.{reaches}
use Rattle.answers.specs.declared.Reply.{Reply}
use Rattle.answers.specs.Reply.{silence, sent_bytes}
use Rattle.answers.specs.Judged.{command, stored, off_already, takes, judge}
use Rattle.answers.specs.Played.{Outcome, turned, answered, played}
use Rattle.answers.specs.Session.{by_burst, session}
use Rattle.answers.specs.Sample.{two_panels}
use Rattle.demands.specs.Demand3.{Box, SilenceOrNack}
use Rattle.demands.specs.WrongBoxes.{always, every_nav, never_stores, first_alone, if_silent, stores_answered, one_late, other_than, guesses, written, Differs, AllDiffer, SomeWithstand}
use Rattle.demands.proofs.Demand3.{withstands_by, withstands, damaged_still, damaged_may}
use Rattle.std.proofs.lemmas.Grind.{common_steps}

-- the bytes that a box sends in that session
abbrev sent_by : Edition → Box → List ℕ
unfolding flatten
sent_by edition box = flatten (map (sent_bytes edition) (box two_panels (written edition)).replies)

abbrev ours : Edition → List ℕ
ours Edition.Sicp185 = 0x05 ∷ 0x01 ∷ 0x19 ∷ 0x02 ∷ 0x1F ∷ 0x05 ∷ 0x01 ∷ 0x00 ∷ 0x06 ∷ 0x02 ∷ 0x05 ∷ 0x02 ∷ 0x62 ∷ 0x02 ∷ 0x67 ∷ []
ours Edition.Sicp201 = 0x06 ∷ 0x01 ∷ 0x00 ∷ 0x19 ∷ 0x02 ∷ 0x1C ∷ 0x06 ∷ 0x01 ∷ 0x00 ∷ 0x00 ∷ 0x06 ∷ 0x01 ∷ 0x06 ∷ 0x02 ∷ 0x00 ∷ 0x62 ∷ 0x02 ∷ 0x64 ∷ []

abbrev others : Edition → List Box
others edition =
    by_burst every_nav ∷ by_burst (never_stores edition) ∷ first_alone edition ∷ by_burst (stores_answered edition) ∷ one_late edition ∷ by_burst (guesses edition) ∷ []

-- whether each sends ours
abbrev tests : Edition → List Bool
tests edition = map (λ (box : Box). same (sent_by edition box) (ours edition)) (others edition)

-- one computed test
tested : (edition : Edition) → (sent_by edition (session edition) ≡ ours edition) × (tests edition ≡ false ∷ false ∷ false ∷ false ∷ false ∷ false ∷ [])
unfolding settings found_from allowed_by_row fresh_values within all_allowed filled flatten ◌⊕◌ xor_all is_intact verdict_of data_of packet_of place_from reaches is_heard sent_bytes command stored laid_at off_already takes judge turned seems_for answered two_panels by_burst written same
tested Edition.Sicp185 = (refl, refl)
tested Edition.Sicp201 = (refl, refl)

same_ours : (edition : Edition) → same (ours edition) (ours edition) ≡ true
unfolding same
same_ours Edition.Sicp185 = refl
same_ours Edition.Sicp201 = refl

module _ (edition : Edition) where
  same_bytes : (box : Box) → box two_panels (written edition) ≡ session edition two_panels (written edition) → sent_by edition box ≡ ours edition
  unfolding flatten
  same_bytes box e = grind (arith, common_steps, tested)

  at : (k : ℕ) → get_or (tests edition) k true ≡ get_or (false ∷ false ∷ false ∷ false ∷ false ∷ false ∷ []) k true
  at k = ap (λ (l : List Bool). get_or l k true) (tested edition).1

  differs : (box : Box) → same (sent_by edition box) (ours edition) ≡ false → Differs edition box
  differs box wrong e = grind (arith, common_steps, same_bytes, same_ours)

-- four times the same bytes are not the 15 or 18 that ours sends
not_four : (edition : Edition) (n : ℕ) → 4 * n ≡ length (ours edition) → ⊥
not_four Edition.Sicp185 n e = omega (arith, e)
not_four Edition.Sicp201 n e = omega (arith, e)

four_times : (x : List ℕ) → length (x ++ (x ++ (x ++ (x ++ [])))) ≡ 4 * length x
four_times x = simp length-append (omega arith)

always_sends : (edition : Edition) (r : Reply) → let x = sent_bytes edition r in sent_by edition (by_burst (always r)) ≡ x ++ (x ++ (x ++ (x ++ [])))
unfolding flatten by_burst written
always_sends Edition.Sicp185 r = refl
always_sends Edition.Sicp201 r = refl

always_differs : (edition : Edition) (r : Reply) → Differs edition (by_burst (always r))
always_differs edition r e =
    let n = ap (λ (l : List ℕ). length l) (sym (always_sends edition r) ∙ same_bytes edition (by_burst (always r)) e) in
    not_four edition _ (sym (four_times (sent_bytes edition r)) ∙ n)

pub all_differ : AllDiffer
all_differ edition = (
  always_differs edition,
  differs edition _ (at edition 0),
  differs edition _ (at edition 1),
  differs edition _ (at edition 2),
  differs edition _ (at edition 3),
  differs edition _ (at edition 4),
  differs edition _ (at edition 5),
)

answered_still : (edition : Edition) (w : Wall) (b : List ℕ) (d : Damage) → (reading_of edition b).verdict ≡ Verdict.Damaged d → (stores_answered edition w b).wall ≡ w
answered_still edition w b d e = grind (arith, common_steps, played, if_silent, damaged_still, reading_of)

-- on the other edition a spoiled packet is damaged as well
not_guessed : (edition : Edition) (w : Wall) (p : List ℕ) (s : Spoiling) → is_intact edition p ≡ true → Spoils s p
    → guesses edition w (spoiled s p) ≡ played edition w (spoiled s p)
not_guessed edition w p s i h = rw (spoiled_broken edition s p i h (other_than edition))

pub some_withstand : SomeWithstand
some_withstand edition = (
  withstands edition SilenceOrNack (always silence) (λ w b d e. refl) (λ w b d e. inl refl),
  (λ r. withstands edition (λ s. Unit {0}) (always r) (λ w b d e. refl) (λ w b d e. tt)),
  withstands edition (λ s. Unit {0}) every_nav (λ w b d e. refl) (λ w b d e. tt),
  withstands edition SilenceOrNack (never_stores edition) (λ w b d e. refl) (λ w b. damaged_may w (reading_of edition b)),
  withstands edition SilenceOrNack (stores_answered edition) (answered_still edition) (λ w b. damaged_may w (reading_of edition b)),
  withstands_by edition SilenceOrNack (guesses edition)
      (λ w p s i h. ap (λ (o : Outcome). o.wall) (not_guessed edition w p s i h) ∙ damaged_still w (reading_of edition (spoiled s p)) _ (spoiled_damaged edition s p i h))
      (λ w p s i h. rw (not_guessed edition w p s i h) (damaged_may w (reading_of edition (spoiled s p)) _ (spoiled_damaged edition s p i h))),
)
