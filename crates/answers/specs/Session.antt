-- Many bursts. 01, "Packet and burst".
use Rattle.std.specs.Prelude.{ℕ, List, [], ◌∷◌}
use Rattle.packet.specs.declared.Edition.{Edition}
use Rattle.panels.specs.Wall.{Wall}
use Rattle.answers.specs.declared.Reply.{Reply}
use Rattle.answers.specs.Played.{Outcome, played}

pub record Ended : Type 0 where
  pub wall : Wall
  pub replies : List Reply

-- bursts, or what was read of them, taken one after the other, each by the same rule
unfoldable pub by_burst : {B : Type 0} → (Wall → B → Outcome) → Wall → List B → Ended
by_burst rule w [] = record { wall = w; replies = [] }
by_burst rule w (b ∷ bs) =
    let o = rule w b in
    let e = by_burst rule o.wall bs in
    record { wall = e.wall; replies = o.reply ∷ e.replies }

-- and played, on a line of an edition
abbrev pub session : Edition → Wall → List (List ℕ) → Ended
session edition = by_burst (played edition)
