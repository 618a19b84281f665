-- The numbers that calls refuse by. Assumes nothing.
use Prim.Native.Nat.{ℕ, suc, ◌+◌, ◌*◌}
use mathlib.Core.Path.{◌≡◌, refl, ap, ◌∙◌}
use mathlib.Core.Bool.{Bool, true, false, cond, ◌&&◌, ◌||◌}
use mathlib.Core.List.{List, [], ◌∷◌, flatten}
use native.Mathlib.Omega.{arith}
use borrow.Author.Tests.{lt-ltb}
use lib.Dec.{leb, ltb, eqb}
use lib.ListN.{length, replicate}
use Rattle.std.specs.Prelude.{Option, Some, None, Ok, Err, is_some}
use Rattle.std.specs.Option.{option_map_or}
use Rattle.settings.specs.declared.Profile.{Profile}
use Rattle.tiling.specs.declared.Kind.{Kind}
use Rattle.tiling.specs.Kinds.{kind_with}
use Rattle.settings.specs.Settings.{settings, fresh_values, allowed_by_row}
use Rattle.settings.specs.Profiles.{profile_with}
use Rattle.packet.specs.declared.Edition.{Edition}
use Rattle.packet.specs.declared.WriteError.{WriteError}
use Rattle.packet.specs.Reading.{reading_of}
use Rattle.packet.specs.Answered.{is_heard}
use Rattle.packet.specs.Edition.{edition_with, open_refusal}
use Rattle.packet.specs.Packet.{shortest, most_data as packet_data, written_of as packet_written, refusal_number as packet_number}
use Rattle.table_calls.specs.declared.Refusal.{Refusal}
use Rattle.panels.specs.Wall.{Wall, place_of}
use Rattle.table_calls.specs.Calls.{number_of as table_number, add_refusal}
use Rattle.answers.specs.Reply.{sent_bytes, sent_of, refusal_number as answer_number}
use Rattle.requests.specs.declared.Request.{Request}
use Rattle.requests.specs.declared.Said.{Said}
use Rattle.requests.specs.Request.{request_packet, is_request}
use Rattle.host.specs.declared.Phase.{Phase}
use Rattle.host.specs.declared.Host.{Host}
use Rattle.host.specs.Heard.{said_to}
use Rattle.host.specs.Machine.{Happening, start, burst, mark, State, Move, most_sendings, sendings, waits, quiet, unasked, again, ending, heard, step}
use Rattle.host.specs.Calls.{state_by, state_of, step_of}
use Rattle.image_write.specs.declared.Refusal.{Refusal as ImageRefusal}
use Rattle.image_forms.specs.declared.Form.{Form}
use Rattle.image_forms.specs.Forms.{keeps}
use Rattle.image_write.specs.Written.{size_of, loses_nothing, written_of as image_written, written_number as image_number}
use Rattle.image_write.proofs.Losing.{two_holds}
use Rattle.demands.specs.HostCalls.{has_room, answer_to}
use Rattle.demands.proofs.HostCalls.{start_by, start_by_lem, refused, roomy}
use Rattle.demands.specs.Numbers.{Add, Remove, is_plain, all_plain, ImageOne, ImageTwo, Answer, most_data, Packet, Open, number_in, number_at, start_number, HostCall}

pub add_number : Add
unfolding add_refusal profile_with kind_with
add_number w i g n k = go (leb 32 (length w)) (eqb i.0 0) (place_of i w) (eqb g.0 0) (eqb n 0) (eqb n 1)
  where
    kinds : (d e : Bool) → table_number (option_map_or (λ kind. None) (cond d (Some Kind.FiveByFive) (cond e (Some Kind.FifteenByTen) None)) (Some Refusal.UnknownKind)) ≡ cond (d || e) 0 7
    kinds true e = refl
    kinds false true = refl
    kinds false false = refl

    go : (a b : Bool) (q : Option ℕ) (c d e : Bool)
        → table_number
        (cond a (Some Refusal.Full)
        (cond b (Some Refusal.IdZero)
        (cond (is_some q) (Some Refusal.IdTaken)
        (cond c (Some Refusal.GroupZero)
        (option_map_or (λ profile. option_map_or (λ kind. None) (kind_with k) (Some Refusal.UnknownKind)) (cond d (Some Profile.General) (cond e (Some Profile.Phoenix) None)) (Some Refusal.UnknownProfile))))))
        ≡ cond a 1 (cond b 2 (cond (is_some q) 3 (cond c 4 (cond (d || e) (cond (eqb k 0 || eqb k 1) 0 7) 5))))
    go true b q c d e = refl
    go false true q c d e = refl
    go false false (Some k) c d e = refl
    go false false None true d e = refl
    go false false None false true e = kinds (eqb k 0) (eqb k 1)
    go false false None false false true = kinds (eqb k 0) (eqb k 1)
    go false false None false false false = refl

pub remove_number : Remove
remove_number w i = go (place_of i w)
  where
    go : (q : Option ℕ) → table_number (cond (is_some q) None (Some Refusal.NoPanel)) ≡ cond (is_some q) 0 6
    go (Some k) = refl
    go None = refl

-- form 1 keeps exactly the walls of plain panels
plain_kept : (w : Wall) → loses_nothing Form.One w ≡ all_plain w
unfolding loses_nothing keeps settings fresh_values allowed_by_row flatten
plain_kept [] = refl
plain_kept (p ∷ w) = ap (λ (t : Bool). is_plain p && t) (plain_kept w)

image_number_lem : (form : Form) (w : Wall) (out : List ℕ)
    → image_number (image_written form w out) ≡ cond (loses_nothing form w) (cond (leb (size_of form w) (length out)) 0 19) 31
unfolding image_written
image_number_lem form w out = go (loses_nothing form w) (leb (size_of form w) (length out))
  where
    go : (a b : Bool) → image_number (cond a (cond b (Ok (size_of form w)) (Err ImageRefusal.NoRoom)) (Err ImageRefusal.WouldLose)) ≡ cond a (cond b 0 19) 31
    go true true = refl
    go true false = refl
    go false b = refl

pub image-one : ImageOne
unfolding settings
image-one w out = image_number_lem Form.One w out ∙ ap (λ (t : Bool). cond t (cond (leb (35 * length w + 2) (length out)) 0 19) 31) (plain_kept w)

pub image_two : ImageTwo
image_two w out = image_number_lem Form.Two w out ∙ ap (λ (t : Bool). cond t (cond (leb (45 * length w + 2) (length out)) 0 19) 31) (two_holds w)

pub answer_number_lem : Answer
unfolding sent_of
answer_number_lem edition out r = go (leb 40 (length out))
  where
    go : (t : Bool) → answer_number (cond t (Some (length (sent_bytes edition r))) None) ≡ cond t 0 19
    go true = refl
    go false = refl

pub packet_number_lem : Packet
unfolding packet_written
packet_number_lem edition out d = rw (data_most edition) (go (leb 40 (length out)) (leb (length d) (most_data edition)))
  where
    data_most : (edition : Edition) → packet_data edition ≡ most_data edition
    data_most Edition.Sicp185 = refl
    data_most Edition.Sicp201 = refl

    go : (a b : Bool) → packet_number (cond a (cond b (Ok (length d + shortest edition)) (Err WriteError.TooLong)) (Err WriteError.NoRoom)) ≡ cond a (cond b (Some 0) None) (Some 19)
    go true true = refl
    go true false = refl
    go false b = refl

pub open_number : Open
unfolding edition_with
open_number n = go (eqb n 185) (eqb n 201)
  where
    go : (a b : Bool) → open_refusal (cond a (Some Edition.Sicp185) (cond b (Some Edition.Sicp201) None)) ≡ cond (a || b) 0 23
    go true b = refl
    go false true = refl
    go false false = refl

-- The host's calls: a start by its questions,
start_questions : (s : State) (r : Request) (a b c d : Bool) → number_in (start_by s r a b c d).outcome ≡ cond a 21 (cond b 24 (cond c 0 22))
start_questions s r true b c d = refl
start_questions s r false true c d = refl
start_questions s r false false true true = refl
start_questions s r false false true false = refl
start_questions s r false false false d = refl

-- a burst and a mark, which are taken
module _ (s : State) where
  abbrev Taken : Move → Type 0
  Taken m = number_in m.outcome ≡ 0

  either : (t : Bool) (m n : Move) → Taken m → Taken n → Taken (cond t m n)
  either true m n h k = h
  either false m n h k = k

  again-taken : Taken (again s)
  unfolding again
  again-taken = either (ltb (sendings s) most_sendings) _ _ refl refl

  ending-taken : (d : List ℕ) (w : Option Said) → Taken (ending s d w)
  unfolding ending
  ending-taken d (Some Said.Ack) = refl
  ending-taken d (Some Said.Nack) = again-taken
  ending-taken d (Some Said.Nav) = refl
  ending-taken d (Some Said.Report) = refl
  ending-taken d None = refl

  unasked-taken : (resting : Bool) → number_in (unasked resting) ≡ 0
  unasked-taken true = refl
  unasked-taken false = refl

  burst-taken : (b : List ℕ) → Taken (step s (burst b))
  unfolding step heard
  burst-taken b = either (waits s) (heard s (reading_of s.edition b)) (quiet s (unasked s.resting)) (ending-taken _ (said_to s.request (reading_of s.edition b))) (unasked-taken s.resting)

  mark-taken : Taken (step s mark)
  unfolding step
  mark-taken = either (waits s) _ _ again-taken refl

by_phase : (edition : Edition) (p : Phase) (n : ℕ) → let s = state_by edition p in cond (waits s) 21 (cond s.resting 24 n) ≡ number_at p n
by_phase edition Phase.Idle n = refl
by_phase edition Phase.Resting n = refl
by_phase edition (Phase.Waiting asked) n = rw (lt-ltb 0 (suc (length (replicate asked.again (request_packet edition asked.request)))) (omega arith))

by_happening : (host : Host) (h : Happening) → number_in (step (state_of host) h).outcome ≡ start_number host h
by_happening host (start r) =
    let s = state_of host in
    ap (λ (m : Move). number_in m.outcome) (start_by_lem s r) ∙ start_questions s r (waits s) s.resting (is_request s.edition r) (is_heard r.id r.group)
    ∙ by_phase host.edition host.phase (cond (is_request host.edition r) 0 22)
by_happening host (burst b) = burst-taken (state_of host) b
by_happening host mark = mark-taken (state_of host)

pub host_call : HostCall
unfolding step_of
host_call host c = go (has_room c) refl
  where
    go : (t : Bool) → has_room c ≡ t → number_in (answer_to host c).outcome ≡ cond t (start_number host c.happens) 19
    go true room = ap (λ (m : Move). number_in m.outcome) (roomy host c room) ∙ by_happening host c.happens
    go false short = ap number_in (refused host c short).told
