-- A receiver with room for the longest command, or more, reads any burst as no box can tell from the whole burst's reading. Assumes
-- nothing.
use mathlib.Core.Path.{◌≡◌, refl, sym, ap, ◌∙◌}
use mathlib.Core.List.{List, [], ◌∷◌, ◌++◌, foldl, append-nil}
use Prim.Native.Nat.{ℕ, suc, ◌+◌, ◌-◌, ◌≤◌, ◌<◌, min}
use native.Mathlib.Omega.{arith}
use lib.ListN.{length, take, set, replicate, length-append, length-take, length-replicate}
use lib.Seq.{take_all, take_at, take-append-le, set_at, set_out, append_snoc}
use Rattle.lists.proofs.Sizes.{by_size}
use Rattle.xor.specs.Xor.{◌⊕◌, xor_all}
use Rattle.xor.proofs.Laws.{⊕_zero, xor_all-append}
use Rattle.packet.specs.declared.Edition.{Edition}
use Rattle.packet.specs.Edition.{head_size}
use Rattle.packet.specs.Packet.{longest, verdict_of, data_of, verdict_by}
use Rattle.packet.specs.Reading.{Reading, seems_for, reading_of}
use Rattle.packet.specs.Front.{data_by, reading_by}
use Rattle.packet.proofs.Readings.{same_reading}
use Rattle.packet.proofs.Fronts.{own_data, front_verdict, front_data, front_seems}
use Rattle.panels.specs.declared.Table.{Table}
use Rattle.panels.specs.Wall.{Wall}
use Rattle.answers.specs.declared.Played.{Played}
use Rattle.answers.specs.Played.{answered, answered_on}
use Rattle.answers.specs.Session.{session}
use Rattle.answers.proofs.Longest.{answered_first}
use Rattle.line.specs.Receiver.{Event, bursts_after}
use Rattle.small_receiver.specs.AnyReceiver.{Alike, answered_alike, fed_after, stream_session}
use Rattle.line.specs.declared.Heard.{Heard}
use Rattle.line.specs.Any.{heard_of, AnswersAll}
use Rattle.small_receiver.specs.declared.SmallReceiver.{SmallReceiver}
use Rattle.small_receiver.specs.Small.{keeping, longest_command, with_byte, small_of, reading_in, fresh_as, IsOpen, at_mark, streamed}

-- what was answered, and a fresh receiver
abbrev pub heard_as : ℕ → Played → Heard SmallReceiver
heard_as n = heard_of (keeping n [])

abbrev pub receiver : List ℕ → ℕ → ℕ → SmallReceiver
receiver bs n s = record { bytes = bs; count = n; sum = s }

pub same_receiver : {bs cs : List ℕ} {n m s t : ℕ} → bs ≡ cs → n ≡ m → s ≡ t → receiver bs n s ≡ receiver cs m t
same_receiver p q r = λ k. receiver (p k) (q k) (r k)

-- with room for n bytes, which no more than a receiver counts
module _ (n : ℕ) (few : n ≤ longest + 1) where
  abbrev room : List ℕ → List ℕ
  room l = take n l ++ replicate (n - length l) 0

  length_room : (l : List ℕ) → length (room l) ≡ n
  length_room l = simp (length-append, length-take, length-replicate) (omega arith)

  -- a byte more, while there is room, and past it
  stored : (l : List ℕ) (b : ℕ) → length l < n → set (room l) (min (length l) (longest + 1)) b ≡ room (l ++ b ∷ [])
  stored l b h =
      let more = length-append l (b ∷ []) in
      let count : min (length l) (longest + 1) ≡ length l = omega arith in
      let place : n - length l ≡ suc (n - 1 - length l) = omega arith in
      let left : n - length (l ++ b ∷ []) ≡ n - 1 - length l = omega arith in
      rw (count, take_all n l (omega arith), place, take_all n (l ++ b ∷ []) (omega arith), left)
      (set_at l 0 _ b (length l) refl ∙ sym (append_snoc l b _))

  passed_by : (l : List ℕ) (b : ℕ) → n ≤ length l → set (room l) (min (length l) (longest + 1)) b ≡ room (l ++ b ∷ [])
  passed_by l b h =
      let more = length-append l (b ∷ []) in
      let none : n - length l ≡ 0 = omega arith in
      let none' : n - length (l ++ b ∷ []) ≡ 0 = omega arith in
      set_out (room l) _ b (rw (length_room l) (omega arith)) ∙ rw (none, none', take-append-le n l (b ∷ []) h)

  pub one_more : (l : List ℕ) (b : ℕ) → with_byte (keeping n l) b ≡ keeping n (l ++ b ∷ [])
  unfolding with_byte keeping xor_all
  one_more l b =
      let more = length-append l (b ∷ []) in
      same_receiver (by_size _ (length l) n (stored l b) (passed_by l b)) (omega arith) (sym (xor_all-append l (b ∷ []) ∙ ap (λ (s : ℕ). xor_all l ⊕ s) (⊕_zero b)))

  anew : (l : List ℕ) → fresh_as (keeping n l) ≡ keeping n []
  unfolding keeping
  anew l = ap (λ (m : ℕ). keeping m []) (length_room l)

  -- the bytes that it has are the burst's front
  front : (l : List ℕ) → take (min (length l) (longest + 1)) (room l) ≡ take n l
  front l = by_size _ n (length l)
      (λ h. let none : n - length l ≡ 0 = omega arith in rw (none, append-nil (take n l)) (take_all (min (length l) (longest + 1)) (take n l) (simp length-take (omega arith))))
      (λ h. let count : min (length l) (longest + 1) ≡ length l = omega arith in rw (count, take_all n l h) (take_at l _ (length l) refl))

  front_read : (l : List ℕ) → reading_in (keeping n l) ≡ reading_by Edition.Sicp201 (take n l) (min (length l) (longest + 1)) (xor_all l)
  unfolding reading_in keeping
  front_read l = ap (λ (b : List ℕ). reading_by Edition.Sicp201 b (min (length l) (longest + 1)) (xor_all l)) (front l)

-- and for the longest command
module _ (n : ℕ) (enough : longest_command ≤ n) (few : n ≤ longest + 1) where
  part : (l : List ℕ) → data_by Edition.Sicp201 (take n l) (verdict_by Edition.Sicp201 (take n l) (min (length l) (longest + 1)) (xor_all l))
      ≡ take (n - head_size Edition.Sicp201) (data_of Edition.Sicp201 l)
  part l =
      front_data Edition.Sicp201 n (omega arith) l (verdict_by Edition.Sicp201 (take n l) (min (length l) (longest + 1)) (xor_all l))
      ∙ ap (take (n - head_size Edition.Sicp201)) (own_data Edition.Sicp201 l (front_verdict Edition.Sicp201 n (omega arith) l))

  read : (l : List ℕ) → reading_in (keeping n l)
      ≡ record { verdict = verdict_of Edition.Sicp201 l; part = take (n - head_size Edition.Sicp201) (data_of Edition.Sicp201 l); seems = seems_for Edition.Sicp201 l }
  read l = front_read n few l ∙ same_reading (front_verdict Edition.Sicp201 n (omega arith) l) (part l) (front_seems Edition.Sicp201 n (omega arith) l)

  alike : (l : List ℕ) → Alike (reading_in (keeping n l)) (reading_of Edition.Sicp201 l)
  alike l = record {
    verdict = ap (λ (r : Reading). r.verdict) (read l);
    answer = λ w. ap (answered w) (read l) ∙ answered_first (n - head_size Edition.Sicp201) (omega arith) (data_of Edition.Sicp201 l) w (verdict_of Edition.Sicp201 l) (seems_for Edition.Sicp201 l);
  }

  at_mark_lem : (t : Table) (l : List ℕ) → at_mark (keeping n l) t ≡ heard_as n (answered_on t (reading_of Edition.Sicp201 l))
  unfolding at_mark
  at_mark_lem t l =
      ap (λ (p : Played). record { receiver = fresh_as (keeping n l); table = p.table; reply = p.reply; damage = p.damage }) (answered_alike t (alike l))
      ∙ ap {B = Heard SmallReceiver} (λ (r : SmallReceiver). let p = answered_on t (reading_of Edition.Sicp201 l) in record { receiver = r; table = p.table; reply = p.reply; damage = p.damage }) (anew n few l)

  -- a burst of any length, byte after byte and then the mark
  pub marked : (t : Table) (b : List ℕ) → at_mark (foldl with_byte (keeping n []) b) t ≡ heard_as n (answered_on t (reading_of Edition.Sicp201 b))
  marked t b = ap (λ (r : SmallReceiver). at_mark r t) (fed_after with_byte (keeping n) (one_more n few) [] b) ∙ at_mark_lem t b

  pub stream_after : (l : List ℕ) (w : Wall) (es : List Event) → streamed (keeping n l) w es ≡ session Edition.Sicp201 w (bursts_after l es)
  stream_after = stream_session with_byte (keeping n) (one_more n few) Edition.Sicp201 reading_in fresh_as (anew n few) alike

pub small_answers : AnswersAll with_byte reading_in fresh_as IsOpen
small_answers = record {
  answers = λ r burst t o. ap (λ (r : SmallReceiver). answered_on t (reading_in r)) (fed o burst) ∙ answered_alike t (alike longest_command (omega arith) (omega arith) burst);
  opens = λ r burst o. ap fresh_as (fed o burst) ∙ anew longest_command (omega arith) burst;
}
  where
    fed : {r : SmallReceiver} → IsOpen r → (burst : List ℕ) → foldl with_byte r burst ≡ small_of burst
    fed o burst = ap (λ (r : SmallReceiver). foldl with_byte r burst) o ∙ fed_after with_byte small_of (one_more longest_command (omega arith)) [] burst
