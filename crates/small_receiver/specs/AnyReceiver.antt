-- What holds of every receiver that after any bytes reads them as the whole burst is read, and is fresh behind a mark. Assumes
-- nothing.
use mathlib.Core.Path.{◌≡◌, refl, sym, ap, ◌∙◌}
use mathlib.Core.List.{List, [], ◌∷◌, ◌++◌, foldl, append-nil}
use Prim.Native.Nat.{ℕ, ◌+◌, ◌<◌}
use native.Mathlib.Numerals.{add-one}
use lib.ListN.{length, get_or, drop}
use lib.Seq.{drop-cons, append_snoc}
use Rattle.packet.specs.declared.Edition.{Edition}
use Rattle.packet.specs.Packet.{damage_in}
use Rattle.packet.specs.Reading.{Reading, reading_of}
use Rattle.panels.specs.declared.Table.{Table}
use Rattle.panels.specs.Wall.{Wall, table_of, panels_of}
use Rattle.answers.specs.Played.{Outcome, answered, answered_on}
use Rattle.answers.specs.Session.{Ended, by_burst, session}
use Rattle.line.specs.Receiver.{Event, byte, quiet, bursts_after}
use Rattle.small_receiver.specs.Stream.{streamed_by}

-- two readings that no box can tell apart
pub record Alike (r s : Reading) : Type 0 where
  pub verdict : r.verdict ≡ s.verdict
  pub answer : (w : Wall) → answered w r ≡ answered w s

pub answered_alike : (t : Table) {r s : Reading} → Alike r s → answered_on t r ≡ answered_on t s
answered_alike t a = λ k. let o = a.answer (panels_of t) k in record { table = table_of o.wall; reply = o.reply; damage = damage_in (a.verdict k) }

-- the bytes from place i on, and the bytes behind that one
pub byte_more : {R : Type 0} (next : R → ℕ → R) (r : R) (bytes : List ℕ) (i : ℕ) → i < length bytes
    → foldl next r (drop i bytes) ≡ foldl next (next r (get_or bytes i 0)) (drop (i + 1) bytes)
byte_more next r bytes i h = rw (drop-cons bytes i 0, add-one)

module _ {R : Type 0} (next : R → ℕ → R) (after : List ℕ → R) (one_more : (l : List ℕ) (b : ℕ) → next (after l) b ≡ after (l ++ b ∷ [])) where
  pub fed_after : (l bs : List ℕ) → foldl next (after l) bs ≡ after (l ++ bs)
  fed_after l [] = ap after (sym (append-nil l))
  fed_after l (b ∷ bs) = ap (λ (r : R). foldl next r bs) (one_more l b) ∙ fed_after (l ++ b ∷ []) bs ∙ ap after (append_snoc l b bs)

  module _ (edition : Edition) (read : R → Reading) (fresh : R → R) (anew : (l : List ℕ) → fresh (after l) ≡ after [])
      (alike : (l : List ℕ) → Alike (read (after l)) (reading_of edition l)) where
    -- a stream is the session of its bursts, from what was heard since the last mark on
    pub stream_session : (l : List ℕ) (w : Wall) (es : List Event) → streamed_by next read fresh (after l) w es ≡ session edition w (bursts_after l es)
    unfolding streamed_by by_burst bursts_after
    stream_session l w [] = refl
    stream_session l w (byte b ∷ es) = ap (λ (r : R). streamed_by next read fresh r w es) (one_more l b) ∙ stream_session (l ++ b ∷ []) w es
    stream_session l w (quiet ∷ es) =
        ap (λ (o : Outcome). marked o (streamed_by next read fresh (fresh (after l)) o.wall es)) ((alike l).answer w)
        ∙ ap (marked (answered w (reading_of edition l)))
        (ap (λ (r : R). streamed_by next read fresh r (answered w (reading_of edition l)).wall es) (anew l) ∙ stream_session [] (answered w (reading_of edition l)).wall es)
      where
        marked : Outcome → Ended → Ended
        marked o e = record { wall = e.wall; replies = o.reply ∷ e.replies }
