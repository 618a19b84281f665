-- Demand 3: a spoiled intact packet is damaged, and a damaged burst changes no panel. Assumes nothing.
use Prim.Native.Nat.{ℕ}
use mathlib.Core.Bool.{true}
use mathlib.Core.Logic.{inl, inr}
use mathlib.Core.Path.{◌≡◌, refl, sym, ap, subst, ◌∙◌}
use mathlib.Core.List.{List, [], ◌∷◌, ◌++◌, map, append_assoc, append-nil}
use Rattle.std.specs.Prelude.{Option, Some, None, is_some, cond}
use Rattle.packet.specs.declared.Edition.{Edition}
use Rattle.packet.specs.declared.Control.{Control}
use Rattle.packet.specs.declared.Damage.{Damage}
use Rattle.packet.specs.declared.MonitorId.{MonitorId}
use Rattle.packet.specs.declared.Verdict.{Verdict}
use Rattle.packet.specs.Reading.{Reading, reading_of}
use Rattle.packet.specs.Packet.{is_intact}
use Rattle.packet.specs.Spoiled.{Spoiling, spoiled, Spoils}
use Rattle.packet.proofs.Spoiled.{spoiled_damaged}
use Rattle.panels.specs.Wall.{Wall, place_of}
use Rattle.answers.specs.declared.Reply.{Reply}
use Rattle.answers.specs.Reply.{silence, word_from}
use Rattle.answers.specs.Played.{Outcome, nack_from, answered, played}
use Rattle.answers.specs.Session.{by_burst, Ended, session}
use Rattle.line.specs.Receiver.{Event, byte, quiet, bursts_after, receiver_of, streamed}
use Rattle.answers.proofs.Readings.{answered_damaged}
use Rattle.line.specs.Streams.{stream_after}
use Rattle.demands.specs.Demand3.{whole, spoilt, sent, kept, SilenceOrNack, AsIfNeverSent, Withstands, Demand3, on_line, Demand3-line}

nack_or_silent : (i : MonitorId) (q : Option ℕ) → SilenceOrNack (cond (is_some q) (word_from i Control.Nack) silence)
nack_or_silent i None = inl refl
nack_or_silent i (Some k) = inr (i, refl)

damaged_answer : (w : Wall) (a : Option MonitorId) → SilenceOrNack (nack_from w a)
damaged_answer w None = inl refl
damaged_answer w (Some i) = nack_or_silent i (place_of i w)

-- A box that takes each burst by itself withstands spoiled packets if none of them changes its wall, and each gets what it may.
module _ (edition : Edition) (May : Reply → Type 0) (rule : Wall → List ℕ → Outcome)
    (still : (w : Wall) (p : List ℕ) (s : Spoiling) → is_intact edition p ≡ true → Spoils s p → (rule w (spoiled s p)).wall ≡ w)
    (may : (w : Wall) (p : List ℕ) (s : Spoiling) → is_intact edition p ≡ true → Spoils s p → May (rule w (spoiled s p)).reply) where
  -- a session after its first reply
  abbrev then : Wall → Reply → List (List ℕ) → Ended
  then w r bs = record { wall = (by_burst rule w bs).wall; replies = r ∷ (by_burst rule w bs).replies }

  pub withstands_by : Withstands edition May (by_burst rule)
  unfolding by_burst
  withstands_by w [] = (refl, tt)
  withstands_by w (whole b ∷ items) = let ih = withstands_by (rule w b).wall items in (ih.0, (refl, ih.1))
  withstands_by w (spoilt p s i h ∷ items) =
      let ih = withstands_by w items in
      subst (λ (v : Wall). AsIfNeverSent May (spoilt p s i h ∷ items) (then v (rule w (spoiled s p)).reply (sent items)) (by_burst rule w (kept items)))
      (sym (still w p s i h))
      (ih.0, (may w p s i h, ih.1))

-- And so if that is so of every damaged burst.
module _ (edition : Edition) (May : Reply → Type 0) (rule : Wall → List ℕ → Outcome)
    (still : (w : Wall) (b : List ℕ) (d : Damage) → (reading_of edition b).verdict ≡ Verdict.Damaged d → (rule w b).wall ≡ w)
    (may : (w : Wall) (b : List ℕ) (d : Damage) → (reading_of edition b).verdict ≡ Verdict.Damaged d → May (rule w b).reply) where
  pub withstands : Withstands edition May (by_burst rule)
  withstands =
      withstands_by edition May rule
      (λ w p s i h. still w (spoiled s p) _ (spoiled_damaged edition s p i h))
      (λ w p s i h. may w (spoiled s p) _ (spoiled_damaged edition s p i h))

pub damaged_still : (w : Wall) (r : Reading) (d : Damage) → r.verdict ≡ Verdict.Damaged d → (answered w r).wall ≡ w
damaged_still w r d e = ap (λ (o : Outcome). o.wall) (answered_damaged w r d e)

pub damaged_may : (w : Wall) (r : Reading) (d : Damage) → r.verdict ≡ Verdict.Damaged d → SilenceOrNack (answered w r).reply
damaged_may w r d e = rw (answered_damaged w r d e) (damaged_answer w r.seems)

pub demand3 : Demand3
demand3 edition = withstands edition SilenceOrNack (played edition) (λ w b. damaged_still w (reading_of edition b)) (λ w b. damaged_may w (reading_of edition b))

-- what is put on the line burst by burst is heard burst by burst
heard : (l b : List ℕ) (es : List Event) → bursts_after l (map byte b ++ quiet ∷ es) ≡ (l ++ b) ∷ bursts_after [] es
unfolding bursts_after
heard l [] es = ap (λ (m : List ℕ). m ∷ bursts_after [] es) (sym (append-nil l))
heard l (x ∷ b) es = heard (l ++ x ∷ []) b es ∙ ap (λ (m : List ℕ). m ∷ bursts_after [] es) (append_assoc l (x ∷ []) b)

pub heard_all : (bs : List (List ℕ)) → bursts_after [] (on_line bs) ≡ bs
unfolding bursts_after
heard_all [] = refl
heard_all (b ∷ bs) = heard [] b (on_line bs) ∙ ap (λ (m : List (List ℕ)). b ∷ m) (heard_all bs)

streamed_is : (edition : Edition) (w : Wall) (bs : List (List ℕ)) → streamed (receiver_of edition []) w (on_line bs) ≡ session edition w bs
streamed_is edition w bs = stream_after edition [] w (on_line bs) ∙ ap (session edition w) (heard_all bs)

pub demand3_line : Demand3-line
demand3_line edition w items = rw (streamed_is edition w (sent items), streamed_is edition w (kept items)) (demand3 edition w items)
