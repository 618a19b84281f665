-- The receiver: the line's bytes and quiet marks, and the bursts between them. 01, "Packet and burst"; 02, A11: a line has one edition
-- from its opening on.
use Rattle.std.specs.Prelude.{ℕ, ◌≡◌, ◌+◌, ◌-◌, min, cond, List, [], ◌∷◌, ◌++◌, ltb, length, take, set, replicate}
use Rattle.packet.specs.declared.Edition.{Edition}
use Rattle.packet.specs.Packet.{longest}
use Rattle.packet.specs.Reading.{Reading, reading_of}
use Rattle.panels.specs.declared.Table.{Table}
use Rattle.panels.specs.Wall.{Wall}
use Rattle.line.specs.declared.Receiver.{Receiver}
use Rattle.line.specs.declared.Heard.{Heard}
use Rattle.answers.specs.Played.{answered, answered_on}
use Rattle.answers.specs.Session.{Ended}
use Rattle.line.specs.Any.{heard_of}

-- what the line driver reports
pub data Event : Type 0 where
  byte : ℕ → Event
  quiet : Event

-- the bytes between two marks are a burst; what was heard since the last mark comes first
unfoldable pub bursts_after : List ℕ → List Event → List (List ℕ)
bursts_after heard [] = []
bursts_after heard (byte b ∷ events) = bursts_after (heard ++ b ∷ []) events
bursts_after heard (quiet ∷ events) = heard ∷ bursts_after [] events

-- A receiver keeps as many bytes as a packet may have, and counts one more, which stands for all that came past them.
unfoldable pub receiver_of : Edition → List ℕ → Receiver
receiver_of edition heard = record { edition = edition; bytes = take longest heard ++ replicate (longest - length heard) 0; count = min (length heard) (longest + 1) }

unfoldable pub with_byte : Receiver → ℕ → Receiver
with_byte r b = cond (ltb r.count longest) (record { edition = r.edition; bytes = set r.bytes r.count b; count = r.count + 1 })
    (record { edition = r.edition; bytes = r.bytes; count = longest + 1 })

-- the burst that it has, with one byte behind those kept for all that came past them
unfoldable pub burst_of : Receiver → List ℕ
burst_of r = take r.count (r.bytes ++ 0 ∷ [])

-- the burst is read by the line's edition, which stays
abbrev pub reading_in : Receiver → Reading
reading_in r = reading_of r.edition (burst_of r)

abbrev pub fresh_as : Receiver → Receiver
fresh_as r = receiver_of r.edition []

-- a quiet mark: the burst is answered, and nothing was heard since
unfoldable pub at_mark : Receiver → Table → Heard Receiver
at_mark r t = heard_of (fresh_as r) (answered_on t (reading_in r))

-- on a 2.01 line nothing was heard
abbrev pub IsOpen : Receiver → Type 0
IsOpen r = r ≡ receiver_of Edition.Sicp201 []

-- what the receiver makes of a stream
unfoldable pub streamed : Receiver → Wall → List Event → Ended
streamed r w [] = record { wall = w; replies = [] }
streamed r w (byte b ∷ events) = streamed (with_byte r b) w events
streamed r w (quiet ∷ events) = let o = answered w (reading_of r.edition (burst_of r)) in
    let e = streamed (receiver_of r.edition []) o.wall events in
    record { wall = e.wall; replies = o.reply ∷ e.replies }
