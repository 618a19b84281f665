-- A list that is taken or refused, and one that is played up to a burst. Assumes nothing.
use Prim.Native.Nat.{ℕ, ◌+◌, ◌*◌, ◌≤◌, ◌<◌}
use mathlib.Core.Bool.{true, false}
use Rattle.std.specs.Prelude.{Option, Some, None, Result, Ok, Err}
use mathlib.Core.List.{List, [], ◌∷◌, ◌++◌, append_assoc, append-nil}
use mathlib.Core.Path.{◌≡◌, refl, sym, ap, ap₂, ◌∙◌}
use native.Mathlib.Omega.{arith}
use borrow.Author.Tests.{le-leb, lt-leb}
use lib.ListN.{length, length-append}
use Rattle.lists.specs.Lists.{laid_at, laid_over}
use Rattle.lists.proofs.Laid.{laid_none, laid_over_lem, laid_then}
use Rattle.bursts.specs.Bursts.{bursts_in}
use Rattle.packet.specs.declared.Edition.{Edition}
use Rattle.panels.specs.Wall.{Wall}
use Rattle.answers.specs.declared.Reply.{Reply}
use Rattle.answers.specs.Played.{played}
use Rattle.answers.specs.Session.{by_burst}
use Rattle.batch.specs.declared.Refusal.{Refusal}
use Rattle.batch.specs.Scene.{Scene, refusal_number, with_count, answers_of, room_for_one, refusal_of, played_out, scene_by, scene_of, written_of}

-- a whole list, for whose bursts there is room or not, and one that is cut
module _ (list : List ℕ) (room : ℕ) where
  pub taken_whole : (bursts_in list).cut ≡ false → room_for_one * length (bursts_in list).whole ≤ room → refusal_of list room ≡ None
  unfolding refusal_of
  taken_whole e h = rw (e, le-leb _ _ h)

  pub no_room : (bursts_in list).cut ≡ false → room < room_for_one * length (bursts_in list).whole → refusal_of list room ≡ Some Refusal.NoRoom
  unfolding refusal_of
  no_room e h = rw (e, lt-leb _ _ h)

  pub cut_refused : (bursts_in list).cut ≡ true → refusal_of list room ≡ Some Refusal.Cut
  unfolding refusal_of
  cut_refused e = rw e

module _ (edition : Edition) (w : Wall) (list : List ℕ) (room : ℕ) where
  pub scene_played : refusal_of list room ≡ None → scene_of edition w list room ≡ played_out edition w (bursts_in list).whole
  unfolding scene_of
  scene_played e = ap (λ (r : Option Refusal). scene_by r edition w (bursts_in list).whole) e

  pub scene_refused : {r : Refusal} → refusal_of list room ≡ Some r → scene_of edition w list room ≡ record { wall = w; answers = []; refusal = Some r }
  unfolding scene_of
  scene_refused e = ap (λ (r : Option Refusal). scene_by r edition w (bursts_in list).whole) e

  pub scene_refusal : (scene_of edition w list room).refusal ≡ refusal_of list room
  unfolding scene_of
  scene_refusal = go (refusal_of list room)
    where
      go : (r : Option Refusal) → (scene_by r edition w (bursts_in list).whole).refusal ≡ r
      go None = refl
      go (Some r) = refl

  -- a list that is refused leaves the wall as it was, and nothing is written of it
  pub refused_leaves : (refusal_number (scene_of edition w list room).refusal ≡ 0 → ⊥) → scene_of edition w list room ≡ record { wall = w; answers = []; refusal = refusal_of list room }
  refused_leaves refused = go (refusal_of list room) refl
    where
      go : (r : Option Refusal) → refusal_of list room ≡ r → scene_of edition w list room ≡ record { wall = w; answers = []; refusal = r }
      go None e = absurd (refused (ap refusal_number (scene_refusal ∙ e)))
      go (Some r) e = scene_refused e

  pub refused_silent : (refusal_number (scene_of edition w list room).refusal ≡ 0 → ⊥) → (scene_of edition w list room).answers ≡ []
  refused_silent refused = ap (λ (s : Scene). s.answers) (refused_leaves refused)

-- what a call gave back tells which
module _ (s : Scene) where
  pub refused_for : (r : Refusal) → ◌≡◌ {A = Result ℕ Refusal} (Err r) (written_of s) → s.refusal ≡ Some r
  refused_for r e = go s.refusal e
    where
      go : (o : Option Refusal) → ◌≡◌ {A = Result ℕ Refusal} (Err r) (elim o [ None ↦ Ok (length s.answers) | Some refusal ↦ Err refusal ]) → o ≡ Some r
      go None e = cc
      go (Some q) e = cc

  pub written_so : (n : ℕ) → ◌≡◌ {A = Result ℕ Refusal} (Ok n) (written_of s) → (s.refusal ≡ None) × (n ≡ length s.answers)
  written_so n e = go s.refusal e
    where
      go : (o : Option Refusal) → ◌≡◌ {A = Result ℕ Refusal} (Ok n) (elim o [ None ↦ Ok (length s.answers) | Some refusal ↦ Err refusal ]) → (o ≡ None) × (n ≡ length s.answers)
      go None e = (refl, cc)
      go (Some q) e = cc

pub numbered_some : (r : Refusal) → refusal_number (Some r) ≡ 0 → ⊥
numbered_some Refusal.Cut e = omega arith
numbered_some Refusal.NoRoom e = omega arith

-- behind what was written
abbrev behind : List ℕ → Scene → Scene
behind done s = record { wall = s.wall; answers = done ++ s.answers; refusal = s.refusal }

-- so much is written of the output, and the wall is so, with some bursts left of all
pub record Playing (edition : Edition) (before : Wall) (all : List (List ℕ)) (lent : List ℕ) (w : Wall) (rest : List (List ℕ)) (written : ℕ) (out : List ℕ) : Type 0 where
  pub done : List ℕ
  pub counted : written ≡ length done
  pub laid : out ≡ laid_at 0 done lent
  pub leads : behind done (played_out edition w rest) ≡ played_out edition before all

pub playing_first : (edition : Edition) (w : Wall) (all : List (List ℕ)) (lent : List ℕ) → Playing edition w all lent w all 0 lent
playing_first edition w all lent = record { done = []; counted = refl; laid = sym (laid_none 0 lent); leads = refl }

module _ {edition : Edition} {before : Wall} {all : List (List ℕ)} {lent : List ℕ} {w : Wall} {written : ℕ} {out : List ℕ} where
  -- one burst more
  pub playing_next : {b : List ℕ} {rest : List (List ℕ)} {v : Wall} {r : Reply} {n : ℕ} {l : List ℕ} → Playing edition before all lent w (b ∷ rest) written out
      → v ≡ (played edition w b).wall → r ≡ (played edition w b).reply → n ≡ written + length (with_count edition r) → l ≡ laid_at written (with_count edition r) out
      → n ≤ length lent → Playing edition before all lent v rest n l
  unfolding by_burst answers_of
  playing_next {b} {rest} {v} {r} p to reply many laid h =
      let x = with_count edition r in
      let o = played edition w b in
      let then = played_out edition o.wall rest in
      record {
        done = p.done ++ x;
        counted = many ∙ rw (length-append p.done x, p.counted);
        laid = laid ∙ ap (laid_at written x) p.laid ∙ laid_then 0 written p.done x lent (p.counted ∙ omega arith) (omega arith);
        leads = ap₂ (λ (u : Wall) (y : List ℕ). behind (p.done ++ y) (played_out edition u rest)) to (ap (with_count edition) reply)
            ∙ ap (λ (l : List ℕ). record { wall = then.wall; answers = l; refusal = then.refusal }) (append_assoc p.done (with_count edition o.reply) then.answers) ∙ p.leads;
      }

  -- none is left
  pub playing_last : Playing edition before all lent w [] written out
      → let s = played_out edition before all in (w ≡ s.wall) × (written ≡ length s.answers) × (out ≡ laid_over s.answers lent)
  unfolding by_burst answers_of
  playing_last p =
      let e = sym (append-nil p.done) ∙ ap (λ (s : Scene). s.answers) p.leads in
      (ap (λ (s : Scene). s.wall) p.leads, p.counted ∙ ap length e, p.laid ∙ laid_over_lem p.done lent ∙ ap (λ (l : List ℕ). laid_over l lent) e)
