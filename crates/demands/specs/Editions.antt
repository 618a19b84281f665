-- Lines that speak 1.85, and lines that speak 2.01. 02, A11; 001, 2.3. That a number opens a line, and 23 where it opens none, is in
-- `Numbers`.
use Rattle.std.specs.Prelude.{ℕ, Bool, cond, ◌&&◌, ◌≡◌, List, [], map, eqb, get_or, Some, None}
use Rattle.packet.specs.declared.Edition.{Edition}
use Rattle.packet.specs.Edition.{edition_number, edition_with}
use Rattle.packet.specs.Packet.{is_intact, data_of}
use Rattle.packet.specs.Reading.{reading_of}
use Rattle.panels.specs.declared.Table.{Table}
use Rattle.panels.specs.Wall.{Wall}
use Rattle.answers.specs.Played.{answered}
use Rattle.answers.specs.Session.{by_burst}
use Rattle.line.specs.declared.Receiver.{Receiver}
use Rattle.line.specs.Receiver.{Event, bursts_after, receiver_of, with_byte, at_mark, streamed}
use Rattle.requests.specs.declared.Request.{Request}
use Rattle.requests.specs.Request.{is_request}
use Rattle.requests.specs.Said.{word_in}
use Rattle.host.specs.Heard.{said_to}
use Rattle.host.specs.Machine.{Happening, State, step}

-- an edition is opened by its number
abbrev pub OpenedByNumber : Type 0
OpenedByNumber = (edition : Edition) → edition_with (edition_number edition) ≡ Some edition

-- A line never guesses: whatever it has heard before, each burst is read by the edition that the line was opened with,
abbrev pub NeverGuesses : Type 0
NeverGuesses =
    (edition : Edition) (w : Wall) (events : List Event)
    → streamed (receiver_of edition []) w events ≡ by_burst answered w (map (reading_of edition) (bursts_after [] events))

-- and nothing that the line or a host hears, and no request, changes its edition.
abbrev pub KeepsEdition : Type 0
KeepsEdition =
    ((r : Receiver) (b : ℕ) → (with_byte r b).edition ≡ r.edition) × ((r : Receiver) (t : Table) → (at_mark r t).receiver.edition ≡ r.edition)
    × ((s : State) (h : Happening) → (step s h).next.edition ≡ s.edition)

-- The requests of a 1.85 line are those of a 2.01 line to group 0: 22 covers every other group.
abbrev pub GroupZero : Type 0
GroupZero = (r : Request) → is_request Edition.Sicp185 r ≡ (eqb r.group.0 0 && is_request Edition.Sicp201 r)

-- A host on 1.85 heeds an intact burst by its ID alone, and on 2.01 where its group is 0.
abbrev pub heeds : Edition → Request → List ℕ → Bool
heeds Edition.Sicp185 r b = eqb (get_or b 1 0) r.id.0
heeds Edition.Sicp201 r b = eqb (get_or b 2 0) 0 && eqb (get_or b 1 0) r.id.0

abbrev pub Heeded : Type 0
Heeded =
    (edition : Edition) (r : Request) (b : List ℕ)
    → said_to r (reading_of edition b) ≡ cond (is_intact edition b && heeds edition r b) (word_in r.model r.code (data_of edition b)) None
