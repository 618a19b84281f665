-- What any receiver makes of a line's bytes and quiet marks. 01, "Packet and burst"; 02, A14.
use Rattle.std.specs.Prelude.{ℕ, List, [], ◌∷◌}
use Rattle.packet.specs.Reading.{Reading}
use Rattle.panels.specs.Wall.{Wall}
use Rattle.answers.specs.Played.{answered}
use Rattle.answers.specs.Session.{Ended}
use Rattle.line.specs.Receiver.{Event, byte, quiet}

-- a byte leads it to its next state, and at a mark what it reads is answered, and it is fresh
unfoldable pub streamed_by : {R : Type 0} → (R → ℕ → R) → (R → Reading) → (R → R) → R → Wall → List Event → Ended
streamed_by next read fresh r w [] = record { wall = w; replies = [] }
streamed_by next read fresh r w (byte b ∷ events) = streamed_by next read fresh (next r b) w events
streamed_by next read fresh r w (quiet ∷ events) = let o = answered w (read r) in
    let e = streamed_by next read fresh (fresh r) o.wall events in
    record { wall = e.wall; replies = o.reply ∷ e.replies }
