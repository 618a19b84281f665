-- Many bursts in one call. 02, A9.
use Rattle.std.specs.Prelude.{ℕ, ◌+◌, ◌*◌, cond, List, [], ◌∷◌, ◌++◌, Option, None, Some, Result, Ok, Err, leb, length}
use Rattle.bursts.specs.Bursts.{bursts_in}
use Rattle.packet.specs.declared.Edition.{Edition}
use Rattle.packet.specs.Packet.{longest}
use Rattle.panels.specs.Wall.{Wall}
use Rattle.answers.specs.declared.Reply.{Reply}
use Rattle.answers.specs.Reply.{sent_bytes}
use Rattle.answers.specs.Session.{session}
use Rattle.batch.specs.declared.Refusal.{Refusal}

-- its number, 0 where nothing is refused
abbrev pub refusal_number : Option Refusal → ℕ
refusal_number None = 0
refusal_number (Some Refusal.Cut) = 32
refusal_number (Some Refusal.NoRoom) = 33

-- for each burst a length byte and the answer
abbrev pub with_count : Edition → Reply → List ℕ
with_count edition r = length (sent_bytes edition r) ∷ sent_bytes edition r

unfoldable pub answers_of : Edition → List Reply → List ℕ
answers_of edition [] = []
answers_of edition (r ∷ rs) = with_count edition r ++ answers_of edition rs

-- which may have as many bytes as any packet
abbrev pub room_for_one : ℕ
room_for_one = 1 + longest

-- 32 where the list stops inside a burst; then 33 where the output has no room for each
unfoldable pub refusal_of : List ℕ → ℕ → Option Refusal
refusal_of list room =
    let bursts = bursts_in list in
    cond bursts.cut (Some Refusal.Cut) (cond (leb (room_for_one * length bursts.whole) room) None (Some Refusal.NoRoom))

pub record Scene : Type 0 where
  pub wall : Wall
  pub answers : List ℕ
  pub refusal : Option Refusal

-- the bursts played one by one, in order
abbrev pub played_out : Edition → Wall → List (List ℕ) → Scene
played_out edition w bursts =
    let e = session edition w bursts in record { wall = e.wall; answers = answers_of edition e.replies; refusal = None }

-- on a refusal none is played, and nothing is written
abbrev pub scene_by : Option Refusal → Edition → Wall → List (List ℕ) → Scene
scene_by None edition w bursts = played_out edition w bursts
scene_by (Some refusal) edition w bursts = record { wall = w; answers = []; refusal = Some refusal }

unfoldable pub scene_of : Edition → Wall → List ℕ → ℕ → Scene
scene_of edition w list room = scene_by (refusal_of list room) edition w (bursts_in list).whole

-- how many bytes were written, or why none was
abbrev pub written_of : Scene → Result ℕ Refusal
written_of s = elim s.refusal [ None ↦ Ok (length s.answers) | Some refusal ↦ Err refusal ]
