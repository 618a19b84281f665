-- What the parts of a call leave together. Assumes nothing.
use mathlib.Core.Path.{◌≡◌, sym, ap, ◌∙◌}
use mathlib.Core.Bool.{Bool, true, false, ◌&&◌, false≢true}
use mathlib.Core.List.{List}
use Prim.Native.Nat.{ℕ, ◌+◌, ◌*◌, ◌≤◌}
use borrow.Author.Tests.{leb-true}
use lib.Dec.{leb}
use lib.ListN.{length}
use Rattle.std.specs.Prelude.{Option, Some, None, Result, Ok, Err, is_ok, ok_or, unwrap_or}
use Rattle.std.specs.Result.{result_ok, result_err, result_unwrap_or}
use Rattle.std.proofs.lemmas.Result.{IfOk-at_ok}
use Rattle.std.specs.Option.{option_map_or}
use Rattle.lists.proofs.Both.{both}
use Rattle.packet.specs.declared.Edition.{Edition}
use Rattle.packet.specs.Edition.{edition_with}
use Rattle.packet.specs.Reading.{reading_of}
use Rattle.panels.specs.declared.Table.{Table}
use Rattle.panels.specs.Wall.{Wall, panels_of, table_of}
use Rattle.panels.specs.WellFormed.{WellFormed}
use Rattle.panels.proofs.Laws.{panels_of_table}
use Rattle.answers.specs.declared.Played.{Played}
use Rattle.answers.specs.Reply.{sent_bytes}
use Rattle.answers.specs.Played.{answered, answered_on}
use Rattle.answers.proofs.Formed.{answered-count, wall-played}
use Rattle.image_forms.specs.declared.Form.{Form}
use Rattle.refusals.specs.declared.Refusal.{Refusal}
use Rattle.image_write.specs.Written.{setup_of, size_of, loses_nothing, panel_size}
use Rattle.image_write.proofs.Losing.{two_holds}
use Rattle.refusals.specs.Refusals.{refusal_number, no_room, unknown_edition, would_lose}
use Rattle.image_read.specs.Read.{read_of, in_table}
use Rattle.image_read.proofs.Sound.{read_formed}
use Rattle.undivarro.specs.declared.Refused.{Refused}
use Rattle.undivarro.specs.Private.Refused.{refused_number}
use Rattle.undivarro.specs.Calls.{After, refused, given, after_burst, after_setup, after_on}

-- what was read of an image, by the table that the reader gives
pub read_is : (image : List ℕ) {t : Table} → in_table (read_of image) ≡ Ok t → read_of image ≡ Ok (panels_of t)
read_is image {t} e = go (read_of image) e
  where
    go : (r : Result Wall Refusal) → in_table r ≡ Ok t → r ≡ Ok (panels_of t)
    go (Ok w) e =
        let same : table_of w ≡ t = ap (λ (r : Result Table Refusal). result_unwrap_or r t) e in
        ap {B = Result Wall Refusal} (λ (v : Wall). Ok v) (sym (panels_of_table w) ∙ ap panels_of same)
    go (Err r) e = absurd (false≢true (ap is_ok e))

pub not_read : (image : List ℕ) {r : Refusal} → in_table (read_of image) ≡ Err r → read_of image ≡ Err r
not_read image {r} e = go (read_of image) e
  where
    go : (s : Result Wall Refusal) → in_table s ≡ Err r → s ≡ Err r
    go (Ok w) e = absurd (false≢true (sym (ap is_ok e)))
    go (Err d) e = ap {B = Result Wall Refusal} (λ (r : Refusal). Err r) (ap (λ (s : Result Table Refusal). unwrap_or (result_err s) d) e)

pub formed_read : (image : List ℕ) {t : Table} → in_table (read_of image) ≡ Ok t → WellFormed t
formed_read image e = IfOk-at_ok WellFormed e (read_formed image)

-- what an edition's number stands for, from what was tried
pub by_number : {A E : Type 0} (o : Option A) (e : E) {r : Result A E} → ok_or o e ≡ r → o ≡ result_ok r
by_number (Some x) e h = ap result_ok h
by_number None e h = ap result_ok h

-- what room there is
pub first_room : (a b c d : ℕ) → (leb a b && leb c d) ≡ true → a ≤ b
first_room a b c d e = leb-true _ _ (both (leb a b) (leb c d) e).0

pub second_room : (a b c d : ℕ) → (leb a b && leb c d) ≡ true → c ≤ d
second_room a b c d e = leb-true _ _ (both (leb a b) (leb c d) e).1

-- The ends of each call.
module _ (form : Form) (least : ℕ) (image : List ℕ) (then : Wall → After) (answer out : List ℕ) where
  pub setup_refused : {r : Refusal} → in_table (read_of image) ≡ Err r → refused (refusal_number r) answer out ≡ after_setup form least image then answer out
  unfolding after_setup
  setup_refused e = sym (rw (not_read image e))

  module _ {t : Table} (e : in_table (read_of image) ≡ Ok t) where
    pub setup_lost : loses_nothing form (panels_of t) ≡ false → refused would_lose answer out ≡ after_setup form least image then answer out
    unfolding after_setup
    setup_lost l = sym (rw (read_is image e, l))

    pub setup_no_room : loses_nothing form (panels_of t) ≡ true → (leb least (length answer) && leb (size_of form (panels_of t)) (length out)) ≡ false
        → refused no_room answer out ≡ after_setup form least image then answer out
    unfolding after_setup
    setup_no_room l r = sym (rw (read_is image e, l, r))

    pub setup_taken : loses_nothing form (panels_of t) ≡ true → (leb least (length answer) && leb (size_of form (panels_of t)) (length out)) ≡ true
        → then (panels_of t) ≡ after_setup form least image then answer out
    unfolding after_setup
    setup_taken l r = sym (rw (read_is image e, l, r))

-- And of a call on a line.
module _ (number least : ℕ) (image : List ℕ) (then : Edition → Wall → After) (answer out : List ℕ) where
  abbrev on_line : Wall → After
  on_line w = option_map_or (λ edition. then edition w) (edition_with number) (refused unknown_edition answer out)

  abbrev room_in : Table → Bool
  room_in t = leb least (length answer) && leb (size_of Form.Two (panels_of t)) (length out)

  -- Why it is refused: what is wrong with the setup, then the room, then the edition's number. A line's call loses nothing, and what
  -- is wrong with a list is a part of what comes of it.
  abbrev pub IsRefused : Refused → Type 0
  IsRefused (Refused.Setup r) = in_table (read_of image) ≡ Err r
  IsRefused Refused.WouldLose = ⊥
  IsRefused Refused.NoRoom = (t : Table) × (in_table (read_of image) ≡ Ok t) × (room_in t ≡ false)
  IsRefused Refused.UnknownEdition = (t : Table) × (in_table (read_of image) ≡ Ok t) × (room_in t ≡ true) × (edition_with number ≡ None)
  IsRefused (Refused.List r) = ⊥

  pub line_refused_by : (why : Refused) → IsRefused why → refused (refused_number why) answer out ≡ after_on number least image then answer out
  unfolding after_on
  line_refused_by (Refused.Setup r) e = setup_refused Form.Two least image on_line answer out e
  line_refused_by Refused.WouldLose h = absurd h
  line_refused_by Refused.NoRoom (t, e, r) = setup_no_room Form.Two least image on_line answer out e (two_holds (panels_of t)) r
  line_refused_by Refused.UnknownEdition (t, e, r, n) =
      sym (ap (λ (o : Option Edition). option_map_or (λ edition. then edition (panels_of t)) o (refused unknown_edition answer out)) n)
      ∙ setup_taken Form.Two least image on_line answer out e (two_holds (panels_of t)) r
  line_refused_by (Refused.List r) h = absurd h

  -- Its cases, which another crate can cite: it cannot name a `Refused`.
  pub line_refused : {r : Refusal} → in_table (read_of image) ≡ Err r → refused (refusal_number r) answer out ≡ after_on number least image then answer out
  line_refused {r} e = line_refused_by (Refused.Setup r) e

  module _ {t : Table} (e : in_table (read_of image) ≡ Ok t) where
    pub line_no_room : room_in t ≡ false → refused no_room answer out ≡ after_on number least image then answer out
    line_no_room r = line_refused_by Refused.NoRoom (t, e, r)

    module _ (r : room_in t ≡ true) where
      pub line_unknown : edition_with number ≡ None → refused unknown_edition answer out ≡ after_on number least image then answer out
      line_unknown n = line_refused_by Refused.UnknownEdition (t, e, r, n)

      pub line_taken : {edition : Edition} → edition_with number ≡ Some edition → then edition (panels_of t) ≡ after_on number least image then answer out
      unfolding after_on
      line_taken n =
          sym (ap (λ (o : Option Edition). option_map_or (λ edition. then edition (panels_of t)) o (refused unknown_edition answer out)) n)
          ∙ setup_taken Form.Two least image on_line answer out e (two_holds (panels_of t)) r

-- What was answered to a burst on a table.
module _ {t : Table} (f : WellFormed t) (edition : Edition) (burst : List ℕ) {p : Played} (is : p ≡ answered_on t (reading_of edition burst)) where
  wall_is : panels_of p.table ≡ (answered (panels_of t) (reading_of edition burst)).wall
  wall_is = wall-played f (reading_of edition burst) is

  pub size_played : size_of Form.Two (panels_of p.table) ≡ size_of Form.Two (panels_of t)
  size_played = ap (λ (k : ℕ). panel_size Form.Two * k + 2) (ap length wall_is ∙ answered-count (panels_of t) (reading_of edition burst))

  pub given-played : (answer out : List ℕ)
      → given (sent_bytes edition p.reply) (setup_of Form.Two (panels_of p.table)) p.damage answer out ≡ after_burst edition (panels_of t) burst answer out
  given-played answer out =
      ap (λ (w : Wall). given (sent_bytes edition p.reply) (setup_of Form.Two w) p.damage answer out) wall_is
      ∙ ap (λ (q : Played). given (sent_bytes edition q.reply) (setup_of Form.Two (answered (panels_of t) (reading_of edition burst)).wall) q.damage answer out) is
