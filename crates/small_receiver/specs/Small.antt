-- The small receiver of a 2.01 line, which keeps the first bytes of a burst, the count and a running XOR. 02, A14.
use Rattle.std.specs.Prelude.{ℕ, ◌≡◌, ◌+◌, ◌-◌, min, List, [], ◌++◌, length, take, set, replicate}
use Rattle.xor.specs.Xor.{◌⊕◌, xor_all}
use Rattle.settings.specs.Settings.{most_values}
use Rattle.packet.specs.declared.Edition.{Edition}
use Rattle.packet.specs.Packet.{shortest, longest}
use Rattle.packet.specs.Reading.{Reading}
use Rattle.packet.specs.Front.{reading_by}
use Rattle.panels.specs.declared.Table.{Table}
use Rattle.panels.specs.Wall.{Wall}
use Rattle.answers.specs.Played.{answered_on}
use Rattle.answers.specs.Session.{Ended}
use Rattle.line.specs.Receiver.{Event}
use Rattle.small_receiver.specs.Stream.{streamed_by}
use Rattle.small_receiver.specs.declared.SmallReceiver.{SmallReceiver}
use Rattle.line.specs.declared.Heard.{Heard}
use Rattle.line.specs.Any.{heard_of}

-- with room for n bytes, after some were heard; what came past 40 counts as one
unfoldable pub keeping : ℕ → List ℕ → SmallReceiver
keeping n heard = record { bytes = take n heard ++ replicate (n - length heard) 0; count = min (length heard) (longest + 1); sum = xor_all heard }

-- the bytes of the longest command: a packet's with no data, a set code, and the values of the largest row
abbrev pub longest_command : ℕ
longest_command = shortest Edition.Sicp201 + 1 + most_values

abbrev pub small_of : List ℕ → SmallReceiver
small_of = keeping longest_command

-- a byte for which there is no room is stored nowhere
unfoldable pub with_byte : SmallReceiver → ℕ → SmallReceiver
with_byte r b = record { bytes = set r.bytes r.count b; count = min (r.count + 1) (longest + 1); sum = r.sum ⊕ b }

-- a quiet mark: the burst is read by the front that is kept of it and answered, and nothing was heard since
unfoldable pub reading_in : SmallReceiver → Reading
reading_in r = reading_by Edition.Sicp201 (take r.count r.bytes) r.count r.sum

abbrev pub fresh_as : SmallReceiver → SmallReceiver
fresh_as r = keeping (length r.bytes) []

unfoldable pub at_mark : SmallReceiver → Table → Heard SmallReceiver
at_mark r t = heard_of (fresh_as r) (answered_on t (reading_in r))

-- nothing was heard
abbrev pub IsOpen : SmallReceiver → Type 0
IsOpen r = r ≡ small_of []

-- what it makes of a stream
abbrev pub streamed : SmallReceiver → Wall → List Event → Ended
streamed = streamed_by with_byte reading_in fresh_as
