-- A night's changes in one call. 02, A9. List and answers are written here by a definition of this file's own.
use Rattle.std.specs.Prelude.{ℕ, ◌*◌, ◌≤◌, ◌<◌, false, cond, ◌⊎◌, ◌≡◌, None, leb, length, drop}
use mathlib.Core.List.{List, [], ◌∷◌, ◌++◌, map, Memᴰ}
use Rattle.lists.specs.Lists.{laid_over}
use Rattle.bursts.specs.Bursts.{bursts_in}
use Rattle.packet.specs.declared.Edition.{Edition}
use Rattle.packet.specs.declared.MonitorId.{MonitorId}
use Rattle.packet.specs.declared.Control.{Control}
use Rattle.packet.specs.Reading.{reading_of}
use Rattle.panels.specs.Wall.{Wall}
use Rattle.answers.specs.Reply.{word_from, sent_bytes}
use Rattle.answers.specs.Session.{session}
use Rattle.batch.specs.Scene.{refusal_number, scene_of}
use Rattle.demands.specs.Demand1.{BadForEach}
use Rattle.demands.specs.Demand3.{Item, sent, kept, Answered}

-- a list of bursts in the play program's input form: for each its length and then its bytes
abbrev pub list_of : List (List ℕ) → List ℕ
list_of [] = []
list_of (b ∷ bursts) = length b ∷ b ++ list_of bursts

-- The bursts can be told again from the list, and so from the answers.
abbrev pub ToldAgain : Type 0
ToldAgain = (bursts : List (List ℕ)) → bursts_in (list_of bursts) ≡ record { whole = bursts; cut = false }

-- All bytes whatever are such a list, or stop inside a burst, of whose n bytes only a part is there.
pub data Listed : List ℕ → Type 0 where
  whole_list : (bursts : List (List ℕ)) → Listed (list_of bursts)
  cut_list : (bursts : List (List ℕ)) (n : ℕ) (part : List ℕ) → length part < n → Listed (list_of bursts ++ n ∷ part)

abbrev pub WholeOrCut : Type 0
WholeOrCut = (list : List ℕ) → Listed list

-- With room a list equals its bursts played one by one, for table and answers: for each a length byte and the bytes that go out.
abbrev pub OneByOne : Type 0
OneByOne =
    (edition : Edition) (w : Wall) (bursts : List (List ℕ)) (room : ℕ) → 41 * length bursts ≤ room
    → let e = session edition w bursts in
    scene_of edition w (list_of bursts) room ≡ record { wall = e.wall; answers = list_of (map (sent_bytes edition) e.replies); refusal = None }

-- In order: wherever a list is parted, its rest is played on the wall that the front leaves, and answered behind the front's answers.
abbrev pub InOrder : Type 0
InOrder =
    (edition : Edition) (w : Wall) (front rest : List (List ℕ)) (room : ℕ) → 41 * length (front ++ rest) ≤ room
    → let s = scene_of edition w (list_of front) room in
    let t = scene_of edition s.wall (list_of rest) room in
    scene_of edition w (list_of front ++ list_of rest) room ≡ record { wall = t.wall; answers = s.answers ++ t.answers; refusal = t.refusal }

-- 32, the list stops inside a burst, whatever the room; 33, it does not, and the output is below 41 bytes for each burst.
abbrev pub ListNumbers : Type 0
ListNumbers =
    (edition : Edition) (w : Wall) (bursts : List (List ℕ)) (room : ℕ)
    → ((n : ℕ) (part : List ℕ) → length part < n → refusal_number (scene_of edition w (list_of bursts ++ n ∷ part) room).refusal ≡ 32)
    × (refusal_number (scene_of edition w (list_of bursts) room).refusal ≡ cond (leb (41 * length bursts) room) 0 33)

-- On either, no burst is played and the output is as before.
abbrev pub ListRefused : Type 0
ListRefused =
    (edition : Edition) (w : Wall) (list out : List ℕ)
    → let s = scene_of edition w list (length out) in
    (refusal_number s.refusal ≡ 0 → ⊥) → (s.wall ≡ w) × (laid_over s.answers out ≡ out)

-- Demand 1. Answers have at most 41 bytes for each burst, its length byte among them; they fit the output, untouched past them.
abbrev pub AnswersAlone : Type 0
AnswersAlone =
    (edition : Edition) (w : Wall) (bursts : List (List ℕ)) (out : List ℕ)
    → let bytes = (scene_of edition w (list_of bursts) (length out)).answers in
    (length bytes ≤ 41 * length bursts) × (length bytes ≤ length out) × (drop (length bytes) (laid_over bytes out) ≡ drop (length bytes) out)

-- Bursts that are all bad change no panel.
abbrev pub BadBursts : Type 0
BadBursts =
    (edition : Edition) (w : Wall) (bursts : List (List ℕ)) (room : ℕ)
    → ((b : List ℕ) → Memᴰ b bursts → BadForEach w (reading_of edition b)) → (scene_of edition w (list_of bursts) room).wall ≡ w

-- Demand 3. Spoiled packets in a list are as if never sent, for table and all other answers; each gets a length byte 0, or NACK.
abbrev pub NoneOrNack : Edition → List ℕ → Type 0
NoneOrNack edition bytes = (bytes ≡ []) ⊎ ((i : MonitorId) × (bytes ≡ sent_bytes edition (word_from i Control.Nack)))

abbrev pub Demand3-scene : Type 0
Demand3-scene =
    (edition : Edition) (w : Wall) (items : List (Item edition)) (room : ℕ) → 41 * length items ≤ room
    → let s = scene_of edition w (list_of (sent items)) room in
    let t = scene_of edition w (list_of (kept items)) room in
    (s.wall ≡ t.wall) × Answered (NoneOrNack edition) items (bursts_in s.answers).whole (bursts_in t.answers).whole
