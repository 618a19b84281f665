-- A stream of bytes and quiet marks is the session of its bursts. Assumes nothing.
use mathlib.Core.Path.{◌≡◌, refl, sym, ap, ap₂, ◌∙◌}
use mathlib.Core.List.{List, [], ◌∷◌, ◌++◌, foldl, append-nil, append_assoc}
use Prim.Native.Nat.{ℕ, suc, ◌+◌, ◌-◌, ◌≤◌, ◌<◌, min}
use native.Mathlib.Omega.{arith}
use borrow.Author.Tests.{lt-ltb, le-ltb}
use lib.ListN.{length, take, drop, length-append, length-take, take-append-drop}
use lib.Seq.{take_all, take_at, take-append-le, set_at, append_snoc}
use Rattle.lists.proofs.Sizes.{by_size}
use Rattle.packet.specs.declared.Edition.{Edition}
use Rattle.packet.specs.Packet.{longest}
use Rattle.packet.specs.Reading.{Reading, seems_for, reading_of}
use Rattle.packet.proofs.Readings.{same_reading, long_reading, seems_alike}
use Rattle.panels.specs.declared.Table.{Table}
use Rattle.panels.specs.Wall.{Wall}
use Rattle.line.specs.declared.Receiver.{Receiver}
use Rattle.line.specs.declared.Heard.{Heard}
use Rattle.answers.specs.declared.Played.{Played}
use Rattle.answers.specs.Played.{answered, answered_on}
use Rattle.answers.specs.Session.{by_burst, session}
use Rattle.line.specs.Any.{heard_of, AnswersAll}
use Rattle.line.specs.Receiver.{reading_in, fresh_as, IsOpen, Event, byte, quiet, bursts_after, receiver_of, with_byte, burst_of, at_mark, streamed}

-- what was answered, and a fresh receiver
abbrev pub heard_as : Edition → Played → Heard Receiver
heard_as edition = heard_of (receiver_of edition [])

abbrev receiver : Edition → List ℕ → ℕ → Receiver
receiver edition bs n = record { edition = edition; bytes = bs; count = n }

-- a byte more, while there is room
with_byte_short : (edition : Edition) (l : List ℕ) (b : ℕ) → length l < longest → with_byte (receiver_of edition l) b ≡ receiver_of edition (l ++ b ∷ [])
unfolding with_byte receiver_of
with_byte_short edition l b h =
    let n = length-append l (b ∷ []) in
    let count : min (length l) (longest + 1) ≡ length l = omega arith in
    let room : longest - length l ≡ suc ((longest - 1) - length l) = omega arith in
    let left : longest - length (l ++ b ∷ []) ≡ (longest - 1) - length l = omega arith in
    let next : min (length (l ++ b ∷ [])) (longest + 1) ≡ length l + 1 = omega arith in
    simp (lt-ltb (min (length l) (longest + 1)) longest (omega arith))
    (ap₂ (receiver edition)
    (rw (count, take_all longest l (omega arith), room, take_all longest (l ++ b ∷ []) (omega arith), left)
    (set_at l 0 _ b (length l) refl ∙ sym (append_snoc l b _)))
    (ap (λ (k : ℕ). k + 1) count ∙ sym next))

-- past 40 bytes only the count goes on
with_byte_long : (edition : Edition) (l : List ℕ) (b : ℕ) → longest ≤ length l → with_byte (receiver_of edition l) b ≡ receiver_of edition (l ++ b ∷ [])
unfolding with_byte receiver_of
with_byte_long edition l b h =
    let n = length-append l (b ∷ []) in
    let none : longest - length l ≡ 0 = omega arith in
    let none' : longest - length (l ++ b ∷ []) ≡ 0 = omega arith in
    let next : min (length (l ++ b ∷ [])) (longest + 1) ≡ (longest + 1) = omega arith in
    simp (le-ltb (min (length l) (longest + 1)) longest (omega arith))
    (ap₂ (receiver edition) (rw (none, none', take-append-le longest l (b ∷ []) h)) (sym next))

module _ (edition : Edition) where
  with_byte_lem : (l : List ℕ) (b : ℕ) → with_byte (receiver_of edition l) b ≡ receiver_of edition (l ++ b ∷ [])
  with_byte_lem l b = by_size _ (length l) longest (with_byte_short edition l b) (with_byte_long edition l b)

  kept : (l : List ℕ) → length l < (longest + 1) → burst_of (receiver_of edition l) ≡ l
  unfolding burst_of receiver_of
  kept l h =
      let count : min (length l) (longest + 1) ≡ length l = omega arith in
      rw (count, take_all longest l (omega arith), append_assoc l) (take_at l _ (length l) refl)

  long_kept : (l : List ℕ) → (longest + 1) ≤ length l → burst_of (receiver_of edition l) ≡ take longest l ++ 0 ∷ []
  unfolding burst_of receiver_of
  long_kept l h =
      let count : min (length l) (longest + 1) ≡ (longest + 1) = omega arith in
      let none : longest - length l ≡ 0 = omega arith in
      rw (count, none, append-nil (take longest l)) (take_all (longest + 1) (take longest l ++ 0 ∷ []) (simp (length-append, length-take) (omega arith)))

  long_alike : (l : List ℕ) → (longest + 1) ≤ length l → reading_of edition (burst_of (receiver_of edition l)) ≡ reading_of edition l
  long_alike l h =
      let cut = ap (reading_of edition) (long_kept l h) ∙ long_reading edition _ (simp (length-append, length-take) (omega arith)) in
      let three : 3 ≤ length (take longest l) = simp length-take (omega arith) in
      let seems = seems_alike edition (take longest l) (0 ∷ []) three ∙ sym (seems_alike edition (take longest l) (drop longest l) three) ∙ ap (seems_for edition) (take-append-drop longest l) in
      cut ∙ same_reading refl refl seems ∙ sym (long_reading edition l h)

  -- the burst that a receiver has reads as the bytes do that it was fed
  reading_alike : (l : List ℕ) → reading_of edition (burst_of (receiver_of edition l)) ≡ reading_of edition l
  reading_alike l = by_size _ (length l) (longest + 1) (λ h. ap (reading_of edition) (kept l h)) (long_alike l)

  fed_after : (l bs : List ℕ) → foldl with_byte (receiver_of edition l) bs ≡ receiver_of edition (l ++ bs)
  fed_after l [] = ap (receiver_of edition) (sym (append-nil l))
  fed_after l (b ∷ bs) = ap (λ (r : Receiver). foldl with_byte r bs) (with_byte_lem l b) ∙ fed_after (l ++ b ∷ []) bs ∙ ap (receiver_of edition) (append_snoc l b bs)

  -- a burst of any length, byte after byte and then the mark, is answered by what is read of it, and its damage told
  at_mark_lem : (t : Table) (l : List ℕ) → at_mark (receiver_of edition l) t ≡ heard_as edition (answered_on t (reading_of edition l))
  unfolding at_mark receiver_of
  at_mark_lem t l = ap (λ (r : Reading). heard_as edition (answered_on t r)) (reading_alike l)

  pub marked : (t : Table) (b : List ℕ) → at_mark (foldl with_byte (receiver_of edition []) b) t ≡ heard_as edition (answered_on t (reading_of edition b))
  marked t b = ap (λ (r : Receiver). at_mark r t) (fed_after [] b) ∙ at_mark_lem t b

  -- what a mark leaves of a stream
  stream_quiet : (l : List ℕ) (w : Wall) (es : List Event)
      → let o = answered w (reading_of edition l) in
      let e = streamed (receiver_of edition []) o.wall es in
      streamed (receiver_of edition l) w (quiet ∷ es) ≡ record { wall = e.wall; replies = o.reply ∷ e.replies }
  unfolding streamed receiver_of
  stream_quiet l w es =
      ap (λ (r : Reading). let o = answered w r in
      let e = streamed (receiver_of edition []) o.wall es in
      record { wall = e.wall; replies = o.reply ∷ e.replies }) (reading_alike l)

  -- from what was heard since the last mark on
  pub stream_after : (l : List ℕ) (w : Wall) (es : List Event) → streamed (receiver_of edition l) w es ≡ session edition w (bursts_after l es)
  unfolding streamed by_burst bursts_after
  stream_after l w [] = refl
  stream_after l w (byte b ∷ es) = ap (λ (r : Receiver). streamed r w es) (with_byte_lem l b) ∙ stream_after (l ++ b ∷ []) w es
  stream_after l w (quiet ∷ es) = stream_quiet l w es ∙ rw (stream_after [] (answered w (reading_of edition l)).wall es)

-- on a 2.01 line
pub receiver_answers : AnswersAll with_byte reading_in fresh_as IsOpen
unfolding receiver_of
receiver_answers = record {
  answers = λ r burst t o. ap (λ (r : Receiver). answered_on t (reading_in r)) (fed o burst) ∙ ap (answered_on t) (reading_alike Edition.Sicp201 burst);
  opens = λ r burst o. ap fresh_as (fed o burst);
}
  where
    fed : {r : Receiver} → IsOpen r → (burst : List ℕ) → foldl with_byte r burst ≡ receiver_of Edition.Sicp201 burst
    fed o burst = ap (λ (r : Receiver). foldl with_byte r burst) o ∙ fed_after Edition.Sicp201 [] burst
