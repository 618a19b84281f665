-- Demand 3. Take a session of bursts, the quiet between them kept. Spoil any number of its intact packets, each by one byte
-- (changed, lost, or one added at any place). All panels end, and all other bursts are answered, as if those packets had
-- never been sent; each spoiled one gets silence or NACK. So it is on a line of either edition.
use Rattle.std.specs.Prelude.{ℕ, true, ◌⊎◌, ◌≡◌, List, [], ◌∷◌, ◌++◌, map}
use Rattle.packet.specs.declared.Edition.{Edition}
use Rattle.packet.specs.declared.MonitorId.{MonitorId}
use Rattle.packet.specs.declared.Control.{Control}
use Rattle.packet.specs.Packet.{is_intact}
use Rattle.packet.specs.Spoiled.{Spoiling, spoiled, Spoils}
use Rattle.panels.specs.Wall.{Wall}
use Rattle.answers.specs.declared.Reply.{Reply}
use Rattle.answers.specs.Reply.{silence, word_from}
use Rattle.answers.specs.Session.{Ended, session}
use Rattle.line.specs.Receiver.{Event, byte, quiet, receiver_of, streamed}

-- a burst that arrives as it was sent, or an intact packet that is spoiled on the way
pub data Item (edition : Edition) : Type 0 where
  whole : List ℕ → Item edition
  spoilt : (packet : List ℕ) (s : Spoiling) → is_intact edition packet ≡ true → Spoils s packet → Item edition

-- what arrives, and what would have been sent without the spoiled packets
abbrev pub sent : {edition : Edition} → List (Item edition) → List (List ℕ)
sent [] = []
sent (whole b ∷ items) = b ∷ sent items
sent (spoilt p s i h ∷ items) = spoiled s p ∷ sent items

abbrev pub kept : {edition : Edition} → List (Item edition) → List (List ℕ)
kept [] = []
kept (whole b ∷ items) = b ∷ kept items
kept (spoilt p s i h ∷ items) = kept items

abbrev pub SilenceOrNack : Reply → Type 0
SilenceOrNack r = (r ≡ silence) ⊎ ((i : MonitorId) × (r ≡ word_from i Control.Nack))

-- the replies to what arrived, item by item, are the replies to what was kept; a spoiled packet gets what it may
abbrev pub Answered : {edition : Edition} {R : Type 0} → (R → Type 0) → List (Item edition) → List R → List R → Type 0
Answered May [] [] [] = Unit {0}
Answered May [] [] (k ∷ ks) = ⊥
Answered May [] (r ∷ rs) ks = ⊥
Answered May (item ∷ items) [] ks = ⊥
Answered May (whole b ∷ items) (r ∷ rs) [] = ⊥
Answered May (whole b ∷ items) (r ∷ rs) (k ∷ ks) = (r ≡ k) × Answered May items rs ks
Answered May (spoilt p s i h ∷ items) (r ∷ rs) ks = May r × Answered May items rs ks

abbrev pub AsIfNeverSent : {edition : Edition} → (Reply → Type 0) → List (Item edition) → Ended → Ended → Type 0
AsIfNeverSent May items e f = (e.wall ≡ f.wall) × Answered May items e.replies f.replies

-- of a box, which is a behaviour over sessions; ours is `session` of the line's edition
abbrev pub Box : Type 0
Box = Wall → List (List ℕ) → Ended

abbrev pub Withstands : Edition → (Reply → Type 0) → Box → Type 0
Withstands edition May box = (w : Wall) (items : List (Item edition)) → AsIfNeverSent May items (box w (sent items)) (box w (kept items))

abbrev pub Demand3 : Type 0
Demand3 = (edition : Edition) → Withstands edition SilenceOrNack (session edition)

-- the same through the receiver: the bytes of each burst, and a quiet mark behind them
abbrev pub on_line : List (List ℕ) → List Event
on_line [] = []
on_line (b ∷ bs) = map byte b ++ quiet ∷ on_line bs

abbrev pub Demand3-line : Type 0
Demand3-line = (edition : Edition) → Withstands edition SilenceOrNack (λ w bursts. streamed (receiver_of edition []) w (on_line bursts))
