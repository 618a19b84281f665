-- What a call from C leaves: four numbers, and every byte of both buffers. 01, "For C"; 02, A2: play and read write form 2, and
-- back writes form 1; A3: play tells what is wrong with the burst; A7; A9: a list is played; A11: play takes the number of the
-- line's edition.
use Rattle.std.specs.Option.{option_map_or}
use Rattle.std.specs.Prelude.{ℕ, cond, ◌&&◌, List, [], leb, eqb, length, None, Option, Result, Ok, Err}
use Rattle.packet.specs.declared.Damage.{Damage}
use Rattle.packet.specs.declared.Edition.{Edition}
use Rattle.packet.specs.Edition.{edition_number, edition_with}
use Rattle.packet.specs.Packet.{longest, damage_in, damage_number}
use Rattle.packet.specs.Reading.{reading_of}
use Rattle.lists.specs.Lists.{laid_over}
use Rattle.panels.specs.Wall.{Wall}
use Rattle.answers.specs.Reply.{sent_bytes}
use Rattle.answers.specs.Played.{answered}
use Rattle.batch.specs.Scene.{scene_of, refusal_number as list_number}
use Rattle.refusals.specs.declared.Refusal.{Refusal}
use Rattle.image_forms.specs.declared.Form.{Form}
use Rattle.image_write.specs.Written.{setup_of, size_of, loses_nothing}
use Rattle.refusals.specs.Refusals.{refusal_number, no_room, unknown_edition, would_lose}
use Rattle.image_read.specs.Read.{read_of}
use Rattle.image_frame.specs.Frame.{frame_of}
use Rattle.image_salvage.specs.Salvaged.{salvage_of, text_of, lines_cap}
use Rattle.undivarro.specs.declared.Outcome.{Outcome}

pub record After : Type 0 where
  pub outcome : Outcome
  pub answer : List ℕ
  pub out : List ℕ

-- both lengths 0, no damage told, both buffers as before
abbrev pub refused : ℕ → List ℕ → List ℕ → After
refused number answer out = record { outcome = record { refusal = number; answered = 0; written = 0; damage = 0 }; answer = answer; out = out }

-- an answer and an image at the front of the buffers, their lengths, and the damage's number; the bytes past them are untouched
abbrev pub given : List ℕ → List ℕ → Option Damage → List ℕ → List ℕ → After
given sent setup damage answer out = record {
  outcome = record { refusal = 0; answered = length sent; written = length setup; damage = damage_number damage };
  answer = laid_over sent answer;
  out = laid_over setup out;
}

-- a burst answered by what is read of it on a line of an edition, and the wall then written in form 2
abbrev pub after_burst : Edition → Wall → List ℕ → List ℕ → List ℕ → After
after_burst edition w burst answer out =
    let reading = reading_of edition burst in
    let o = answered w reading in
    given (sent_bytes edition o.reply) (setup_of Form.Two o.wall) (damage_in reading.verdict) answer out

-- what comes of a setup that was read; else a refusal of 11 to 18, before all others
abbrev pub unless_refused : {A : Type 0} → Result A Refusal → (A → After) → List ℕ → List ℕ → After
unless_refused (Ok x) then answer out = then x
unless_refused (Err r) then answer out = refused (refusal_number r) answer out

-- What comes of a setup that is written in a form, where nothing is refused: then 31 where the form would lose something; then 19
-- where there is no room. There is where the answer buffer has at least so many bytes, and the output has it for the image.
unfoldable pub after_setup : Form → ℕ → List ℕ → (Wall → After) → List ℕ → List ℕ → After
after_setup form least image then answer out =
    unless_refused (read_of image) (λ w.
    let room = leb least (length answer) && leb (size_of form w) (length out) in
    cond (loses_nothing form w) (cond room (then w) (refused no_room answer out)) (refused would_lose answer out)) answer out

-- it is written again, and nothing is answered
unfoldable pub after_move : Form → List ℕ → List ℕ → After
after_move form image out = after_setup form 0 image (λ w. given [] (setup_of form w) None [] out) [] out

-- a list of bursts is played (02, A9), and the wall then written in form 2
abbrev pub after_list : Edition → Wall → List ℕ → List ℕ → List ℕ → After
after_list edition w list answers out =
    let s = scene_of edition w list (length answers) in
    let n = list_number s.refusal in
    cond (eqb n 0) (given s.answers (setup_of Form.Two s.wall) None answers out) (refused n answers out)

-- on a line opened with this number; 23 comes after what is wrong with the setup and the room
unfoldable pub after_on : ℕ → ℕ → List ℕ → (Edition → Wall → After) → List ℕ → List ℕ → After
after_on number least image then answer out =
    after_setup Form.Two least image (λ w. option_map_or (λ edition. then edition w) (edition_with number) (refused unknown_edition answer out)) answer out

-- a burst's answer needs room for any packet; what a list's need is part of what is wrong with it
abbrev pub after_play_on : ℕ → List ℕ → List ℕ → List ℕ → List ℕ → After
after_play_on number image burst answer out = after_on number longest image (λ edition w. after_burst edition w burst answer out) answer out

abbrev pub after_batch_on : ℕ → List ℕ → List ℕ → List ℕ → List ℕ → After
after_batch_on number image list answers out = after_on number 0 image (λ edition w. after_list edition w list answers out) answers out

abbrev pub after_play : List ℕ → List ℕ → List ℕ → List ℕ → After
after_play = after_play_on (edition_number Edition.Sicp201)

abbrev pub after_batch : List ℕ → List ℕ → List ℕ → List ℕ → After
after_batch = after_batch_on (edition_number Edition.Sicp201)

abbrev pub after_read : List ℕ → List ℕ → After
after_read = after_move Form.Two

abbrev pub after_back : List ℕ → List ℕ → After
after_back = after_move Form.One

-- What is kept of an image that passes 11 to 15, in form 2, and the text of its lines (02, A7). There is room where the lines'
-- buffer has it for those of any image, and the output for the image of what is kept.
unfoldable pub after_salvage : List ℕ → List ℕ → List ℕ → After
after_salvage image lines out =
    let s = salvage_of image in
    let room = leb lines_cap (length lines) && leb (size_of Form.Two s.wall) (length out) in
    unless_refused (frame_of image) (λ frame. cond room (given (text_of s) (setup_of Form.Two s.wall) None lines out) (refused no_room lines out)) lines out
