-- A night's changes in one call. Assumes nothing.
use Prim.Native.Nat.{ℕ, zero, suc, ◌*◌, ◌≤◌, ◌<◌}
use mathlib.Core.Bool.{Bool, true, false, cond}
use mathlib.Core.Logic.{inl, inr}
use mathlib.Core.Path.{◌≡◌, refl, sym, ap, ap₂, subst, ◌∙◌}
use mathlib.Core.List.{List, [], ◌∷◌, ◌++◌, map, map-append, append_assoc, Memᴰ}
use native.Mathlib.Omega.{arith}
use borrow.Author.Tests.{le-leb, leb-true, leb-false}
use lib.Dec.{leb}
use lib.ListN.{length, take, drop, length-append, length-drop, length-replicate, length-take, take-append-drop}
use lib.Seq.{length-take-le}
use Rattle.lists.specs.Lists.{laid_over}
use Rattle.lists.proofs.Laid.{behind-over}
use Rattle.settings.specs.Settings.{get_code}
use Rattle.settings.proofs.Laws.{byte-count-few}
use Rattle.codes.proofs.Laws.{IsFound, found_right}
use Rattle.bursts.specs.Bursts.{Bursts, bursts_in}
use Rattle.bursts.proofs.Bursts.{first_of, no_burst, cut-burst, bursts_behind}
use Rattle.packet.specs.declared.Edition.{Edition}
use Rattle.packet.specs.Reading.{Reading, reading_of}
use Rattle.panels.specs.Wall.{Wall}
use Rattle.answers.specs.declared.Reply.{Reply}
use Rattle.answers.specs.Reply.{most_reported, sent_bytes}
use Rattle.answers.specs.Played.{answered, played}
use Rattle.answers.specs.Session.{Ended, by_burst, session}
use Rattle.std.specs.Prelude.{Option, Some, None}
use Rattle.batch.specs.declared.Refusal.{Refusal}
use Rattle.batch.specs.Scene.{Scene, refusal_number, with_count, answers_of, room_for_one, refusal_of, played_out, scene_by, scene_of}
use Rattle.batch.proofs.Scenes.{cut_refused, scene_refusal, refused_leaves}
use Rattle.answers.proofs.Lengths.{sent-few}
use Rattle.demands.specs.Demand1.{BadForEach}
use Rattle.demands.specs.Demand2.{Answer-Is}
use Rattle.demands.specs.Demand3.{Item, whole, spoilt, sent, kept, SilenceOrNack, Answered}
use Rattle.demands.specs.Scenes.{list_of, ToldAgain, Listed, whole_list, cut_list, WholeOrCut, OneByOne, InOrder, ListNumbers, ListRefused, AnswersAlone, BadBursts, NoneOrNack, Demand3-scene}
use Rattle.demands.proofs.Demand1.{bad_burst}
use Rattle.demands.proofs.Demand2.{answers}
use Rattle.demands.proofs.Demand3.{demand3}

-- Lists.
pub told-again : ToldAgain
told-again [] = no_burst
told-again (b ∷ bursts) = bursts_behind b (list_of bursts) ∙ ap (first_of b) (told-again bursts)

-- one list behind another
list_append : (a b : List (List ℕ)) → list_of (a ++ b) ≡ list_of a ++ list_of b
list_append [] b = refl
list_append (x ∷ a) b = ap (λ (l : List ℕ). length x ∷ (x ++ l)) (list_append a b) ∙ ap (λ (l : List ℕ). length x ∷ l) (sym (append_assoc x (list_of a) (list_of b)))

-- one that stops inside a burst
pub stops : (bursts : List (List ℕ)) (n : ℕ) (part : List ℕ) → length part < n → (bursts_in (list_of bursts ++ n ∷ part)).cut ≡ true
stops [] n part h = ap (λ (b : Bursts). b.cut) (cut-burst n part h)
stops (b ∷ bursts) n part h =
    ap (λ (l : List ℕ). (bursts_in (length b ∷ l)).cut) (append_assoc b (list_of bursts) (n ∷ part))
    ∙ ap (λ (b : Bursts). b.cut) (bursts_behind b (list_of bursts ++ n ∷ part)) ∙ stops bursts n part h

-- a burst before others
before : (b : List ℕ) {list : List ℕ} → Listed list → Listed (length b ∷ b ++ list)
before b (whole_list bursts) = whole_list (b ∷ bursts)
before b (cut_list bursts n part h) = subst (λ (l : List ℕ). Listed (length b ∷ l)) (append_assoc b (list_of bursts) (n ∷ part)) (cut_list (b ∷ bursts) n part h)

listed : (k : ℕ) (list : List ℕ) → length list ≤ k → Listed list
listed zero [] h = whole_list []
listed (suc k) [] h = whole_list []
listed zero (n ∷ bytes) h = absurd (omega arith)
listed (suc k) (n ∷ bytes) h = go (leb n (length bytes)) refl (listed k (drop n bytes) (rw length-drop (omega arith)))
  where
    go : (t : Bool) → leb n (length bytes) ≡ t → Listed (drop n bytes) → Listed (n ∷ bytes)
    go true e rest = subst Listed (ap₂ (λ (m : ℕ) (l : List ℕ). m ∷ l) (length-take-le n bytes (leb-true _ _ e)) (take-append-drop n bytes)) (before (take n bytes) rest)
    go false e rest = cut_list [] n bytes (leb-false _ _ e)

pub whole_or_cut : WholeOrCut
whole_or_cut list = listed (length list) list (omega arith)

-- Scenes.
answers_listed : (edition : Edition) (rs : List Reply) → answers_of edition rs ≡ list_of (map (sent_bytes edition) rs)
unfolding answers_of
answers_listed edition [] = refl
answers_listed edition (r ∷ rs) = ap (λ (l : List ℕ). with_count edition r ++ l) (answers_listed edition rs)

-- a whole list goes by its room
abbrev by_room : Bool → Option Refusal
by_room t = cond t None (Some Refusal.NoRoom)

by_room_lem : (edition : Edition) (w : Wall) (bursts : List (List ℕ)) (room : ℕ)
    → scene_of edition w (list_of bursts) room ≡ scene_by (by_room (leb (41 * length bursts) room)) edition w bursts
unfolding scene_of refusal_of
by_room_lem edition w bursts room =
    ap (λ (b : Bursts). scene_by (cond b.cut (Some Refusal.Cut) (by_room (leb (room_for_one * length b.whole) room))) edition w b.whole) (told-again bursts)

pub one_by_one : OneByOne
one_by_one edition w bursts room h =
    by_room_lem edition w bursts room
    ∙ rw (le-leb _ _ h)
    (ap {B = Scene} (λ (l : List ℕ). record { wall = (session edition w bursts).wall; answers = l; refusal = None }) (answers_listed edition _))

pub session_then : (edition : Edition) (w : Wall) (a b : List (List ℕ))
    → let s = session edition w a in
    let t = session edition s.wall b in
    session edition w (a ++ b) ≡ record { wall = t.wall; replies = s.replies ++ t.replies }
unfolding by_burst
session_then edition w [] b = refl
session_then edition w (x ∷ a) b =
    let o = played edition w x in
    ap {B = Ended} (λ (e : Ended). record { wall = e.wall; replies = o.reply ∷ e.replies }) (session_then edition o.wall a b)

pub in_order : InOrder
in_order edition w front rest room h =
    let s = session edition w front in
    let t = session edition s.wall rest in
    let many = length-append front rest in
    let first = one_by_one edition w front room (omega arith) in
    let then = one_by_one edition s.wall rest room (omega arith) in
    ap (λ (l : List ℕ). scene_of edition w l room) (sym (list_append front rest)) ∙ one_by_one edition w (front ++ rest) room h
    ∙ rw (session_then edition w front rest, first, then, map-append (sent_bytes edition) s.replies t.replies, list_append)

pub list_numbers : ListNumbers
unfolding scene_of
list_numbers edition w bursts room = (
  (λ n part h. ap refusal_number (scene_refusal edition w (list_of bursts ++ n ∷ part) room ∙ cut_refused (list_of bursts ++ n ∷ part) room (stops bursts n part h))),
  ap (λ (s : Scene). refusal_number s.refusal) (by_room_lem edition w bursts room) ∙ go (leb (41 * length bursts) room),
)
  where
    go : (t : Bool) → refusal_number (scene_by (by_room t) edition w bursts).refusal ≡ cond t 0 33
    go true = refl
    go false = refl

pub list_refused : ListRefused
unfolding laid_over
list_refused edition w list out refused =
    let e = refused_leaves edition w list (length out) refused in
    (ap (λ (s : Scene). s.wall) e, ap (λ (s : Scene). laid_over s.answers out) e)

-- Demand 1.
reply-few : (edition : Edition) (w : Wall) (r : Reading) → length (sent_bytes edition (answered w r).reply) ≤ 12
reply-few edition w r = sent-few edition _ (go _ (answers w r))
  where
    go : (reply : Reply) → Answer-Is w reply → length reply.bytes ≡ most_reported
    go reply (inl e) = rw e
    go reply (inr (inl (i, c, e))) = rw e
    go reply (inr (inr (i, k, row, h, same, found, e))) =
        let is = subst (IsFound (get_code row)) found (found_right (get_code row)) in
        rw (e, length-append, length-replicate, length-take) (omega (arith, byte-count-few is.0))

answers-few : (edition : Edition) (w : Wall) (bursts : List (List ℕ)) → length (played_out edition w bursts).answers ≤ 41 * length bursts
unfolding by_burst answers_of
answers-few edition w [] = omega arith
answers-few edition w (b ∷ bursts) =
    let o = played edition w b in
    rw length-append (omega (arith, reply-few edition w (reading_of edition b), answers-few edition o.wall bursts))

pub answers_alone : AnswersAlone
answers_alone edition w bursts out = rw (by_room_lem edition w bursts (length out)) (go (leb (41 * length bursts) (length out)) refl)
  where
    go : (t : Bool) → leb (41 * length bursts) (length out) ≡ t
        → let bytes = (scene_by (by_room t) edition w bursts).answers in
        (length bytes ≤ 41 * length bursts) × (length bytes ≤ length out) × (drop (length bytes) (laid_over bytes out) ≡ drop (length bytes) out)
    go true e = let few = answers-few edition w bursts in (few, omega (arith, leb-true), behind-over (played_out edition w bursts).answers out)
    go false e = (omega arith, omega arith, behind-over [] out)

still : (edition : Edition) (w : Wall) (bursts : List (List ℕ)) → ((b : List ℕ) → Memᴰ b bursts → BadForEach w (reading_of edition b)) → (session edition w bursts).wall ≡ w
unfolding by_burst
still edition w [] bad = refl
still edition w (b ∷ bursts) bad =
    ap (λ (v : Wall). (session edition v bursts).wall) (bad_burst w (reading_of edition b) (bad b (Memᴰ.head refl)))
    ∙ still edition w bursts (λ c m. bad c (Memᴰ.tail m))

pub bad_bursts : BadBursts
bad_bursts edition w bursts room bad = ap (λ (s : Scene). s.wall) (by_room_lem edition w bursts room) ∙ go (leb (41 * length bursts) room)
  where
    go : (t : Bool) → (scene_by (by_room t) edition w bursts).wall ≡ w
    go true = still edition w bursts bad
    go false = refl

-- Demand 3.
none_or_nack : (edition : Edition) (r : Reply) → SilenceOrNack r → NoneOrNack edition (sent_bytes edition r)
unfolding sent_bytes
none_or_nack edition r (inl e) = inl (ap (sent_bytes edition) e)
none_or_nack edition r (inr (i, e)) = inr (i, ap (sent_bytes edition) e)

module _ {edition : Edition} where
  answered_so : {R S : Type 0} (May : R → Type 0) (Then : S → Type 0) (f : R → S) → ((r : R) → May r → Then (f r))
      → (items : List (Item edition)) (rs ks : List R) → Answered May items rs ks → Answered Then items (map f rs) (map f ks)
  answered_so May Then f so [] [] [] a = tt
  answered_so May Then f so [] [] (k ∷ ks) a = elim a [ ]
  answered_so May Then f so [] (r ∷ rs) ks a = elim a [ ]
  answered_so May Then f so (whole b ∷ items) [] ks a = elim a [ ]
  answered_so May Then f so (whole b ∷ items) (r ∷ rs) [] a = elim a [ ]
  answered_so May Then f so (spoilt p s i h ∷ items) [] ks a = elim a [ ]
  answered_so May Then f so (whole b ∷ items) (r ∷ rs) (k ∷ ks) (e, a) = (ap f e, answered_so May Then f so items rs ks a)
  answered_so May Then f so (spoilt p s i h ∷ items) (r ∷ rs) ks (m, a) = (so r m, answered_so May Then f so items rs ks a)

  -- as many arrive as items, and no more are kept
  many : (items : List (Item edition)) → (length (sent items) ≡ length items) × (length (kept items) ≤ length items)
  many [] = (refl, omega arith)
  many (whole b ∷ items) = let h = many items in (omega arith, omega arith)
  many (spoilt p s i h ∷ items) = let h = many items in (omega arith, omega arith)

pub demand3_scene : Demand3-scene
demand3_scene edition w items room h =
    let (all, fewer) = many items in
    let (wall, replies) = demand3 edition w items in
    simp (one_by_one edition w (sent items) room (omega arith), one_by_one edition w (kept items) room (omega arith), told-again)
    (wall, answered_so SilenceOrNack (NoneOrNack edition) (sent_bytes edition) (none_or_nack edition) items _ _ replies)
