-- The receiver that keeps a whole packet is one of any. Assumes nothing.
use mathlib.Core.Path.{◌≡◌, refl, ap}
use mathlib.Core.List.{List, [], ◌∷◌}
use Rattle.panels.specs.Wall.{Wall}
use Rattle.answers.specs.Played.{answered}
use Rattle.answers.specs.Session.{Ended}
use Rattle.line.specs.declared.Receiver.{Receiver}
use Rattle.line.specs.Receiver.{Event, byte, quiet, with_byte, reading_in, fresh_as, streamed}
use Rattle.small_receiver.specs.Stream.{streamed_by}

pub first_streamed : (r : Receiver) (w : Wall) (es : List Event) → streamed_by with_byte reading_in fresh_as r w es ≡ streamed r w es
unfolding streamed_by streamed
first_streamed r w [] = refl
first_streamed r w (byte b ∷ es) = first_streamed (with_byte r b) w es
first_streamed r w (quiet ∷ es) =
    ap (λ (e : Ended). record { wall = e.wall; replies = (answered w (reading_in r)).reply ∷ e.replies }) (first_streamed (fresh_as r) (answered w (reading_in r)).wall es)
