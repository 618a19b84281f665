-- A panel as on a wall of its own. Assumes nothing.
use Prim.Native.Nat.{ℕ, ◌<◌}
use mathlib.Core.Bool.{Bool, true, false, cond}
use mathlib.Core.Path.{◌≡◌, refl, sym, ap, ap₂, ◌∙◌}
use mathlib.Core.List.{List, [], ◌∷◌, map}
use borrow.Author.Tests.{eqb-true}
use lib.Dec.{eqb}
use lib.ListN.{length, get_or}
use Rattle.std.proofs.lemmas.List.{get_or-map}
use Rattle.std.specs.Prelude.{Option, Some, None, is_some}
use Rattle.packet.specs.declared.Edition.{Edition}
use Rattle.packet.specs.declared.MonitorId.{MonitorId}
use Rattle.packet.specs.declared.Control.{Control}
use Rattle.packet.specs.declared.Verdict.{Verdict}
use Rattle.packet.specs.Answered.{is_heard}
use Rattle.packet.specs.Reading.{Reading, reading_of}
use Rattle.panels.specs.declared.Panel.{Panel}
use Rattle.panels.specs.Wall.{Wall, blank, panels_of, place_of, place_from}
use Rattle.panels.specs.WellFormed.{GoodWall}
use Rattle.panels.proofs.Formed.{apart}
use Rattle.panels.proofs.Laws.{place_there, place_nowhere}
use Rattle.answers.specs.declared.Reply.{Reply}
use Rattle.answers.specs.Reply.{silence, word_from}
use Rattle.answers.specs.Judged.{Command, Judged, not_available, reported, taken, judge, reply_by}
use Rattle.answers.specs.Played.{reply_from, nack_from, answered_by, answered}
use Rattle.answers.specs.Session.{by_burst, session}
use Rattle.answers.proofs.Formed.{answered-good, answered-count}
use Rattle.demands.proofs.Each.{changed, changed_by_all, answered-each, session-each, kept-names}
use Rattle.demands.specs.Alone.{if_from, answers_from, AsAlone, OwnRecord}

silent : (t : Bool) → cond t silence silence ≡ silence
silent true = refl
silent false = refl

from-id : (i : MonitorId) (j : Judged) → (reply_by i j).id ≡ i
from-id i not_available = refl
from-id i (reported d) = refl
from-id i (taken q) = refl

-- What the panel with an ID says: of all answers of a wall, those of one panel are what it would say alone.
module _ (w : Wall) (good : GoodWall w) (k : ℕ) (inside : k < length w) where
  abbrev p : Panel
  p = get_or w k blank

  -- an answer that goes by the place of an ID
  record Says (i : MonitorId) (say : Panel → Reply) (from : Wall → Option ℕ → Reply) : Type 0 where
    named : (q : Panel) → (say q).id ≡ i
    nowhere : (v : Wall) → from v None ≡ silence
    at : (v : Wall) (j : ℕ) → from v (Some j) ≡ say (get_or v j blank)

  module _ {i : MonitorId} {say : Panel → Reply} {from : Wall → Option ℕ → Reply} (s : Says i say from) where
    alone_says : from (p ∷ []) (place_of i (p ∷ [])) ≡ cond (eqb p.id.0 i.0) (say p) silence
    unfolding place_from
    alone_says = go (eqb p.id.0 i.0)
      where
        go : (t : Bool) → from (p ∷ []) (cond t (Some 0) None) ≡ cond t (say p) silence
        go true = s.at (p ∷ []) 0
        go false = s.nowhere (p ∷ [])

    among_says : (q : Option ℕ) → place_of i w ≡ q → if_from p.id (from w q) ≡ cond (eqb p.id.0 i.0) (say p) silence
    among_says None e = rw (s.nowhere w) (silent (eqb p.id.0 _) ∙ go (eqb p.id.0 i.0) refl)
      where
        go : (t : Bool) → eqb p.id.0 i.0 ≡ t → silence ≡ cond t (say p) silence
        go true h = absurd (place_nowhere i w e k inside (eqb-true _ _ h))
        go false h = refl
    among_says (Some j) e =
        ap (if_from p.id) (s.at w j)
        ∙ ap (λ (m : MonitorId). cond (eqb p.id.0 m.0) (say (get_or w j blank)) silence) (s.named (get_or w j blank))
        ∙ go (eqb p.id.0 i.0) refl
      where
        go : (t : Bool) → eqb p.id.0 i.0 ≡ t → cond t (say (get_or w j blank)) silence ≡ cond t (say p) silence
        go true h =
            let (there, same) = place_there i w j e in
            ap (λ (n : ℕ). say (get_or w n blank)) (apart w j k good there inside (same ∙ sym (eqb-true _ _ h)))
        go false h = refl

    says_alone : if_from p.id (from w (place_of i w)) ≡ from (p ∷ []) (place_of i (p ∷ []))
    says_alone = among_says (place_of i w) refl ∙ sym alone_says

  nack_says : (i : MonitorId) → Says i (λ q. word_from i Control.Nack) (λ v q. cond (is_some q) (word_from i Control.Nack) silence)
  nack_says i = record { named = λ q. refl; nowhere = λ v. refl; at = λ v j. refl }

  reply_says : (i : MonitorId) (c : Command) → Says i (λ q. reply_by i (judge c q)) (λ v q. reply_from v i c q)
  reply_says i c = record { named = λ q. from-id i (judge c q); nowhere = λ v. refl; at = λ v j. refl }

  answer_alone : (r : Reading) → if_from p.id (answered w r).reply ≡ (answered (p ∷ []) r).reply
  unfolding answered
  answer_alone r = go r.verdict
    where
      nack : (a : Option MonitorId) → if_from p.id (nack_from w a) ≡ nack_from (p ∷ []) a
      nack None = silent (eqb p.id.0 _)
      nack (Some i) = says_alone (nack_says i)

      heard : (i : MonitorId) (c : Command) (t : Bool)
          → if_from p.id (cond t (reply_from w i c (place_of i w)) silence) ≡ cond t (reply_from (p ∷ []) i c (place_of i (p ∷ []))) silence
      heard i c true = says_alone (reply_says i c)
      heard i c false = silent (eqb p.id.0 _)

      go : (v : Verdict) → if_from p.id (answered_by v w r.part r.seems).reply ≡ (answered_by v (p ∷ []) r.part r.seems).reply
      go Verdict.Empty = silent (eqb p.id.0 _)
      go (Verdict.Damaged damage) = nack r.seems
      go (Verdict.Intact i g n) = heard i _ (is_heard i g)

module _ (edition : Edition) where
  abbrev read : List ℕ → Reading
  read = reading_of edition

  settings_alone : (w : Wall) (k : ℕ) → k < length w → (bursts : List (List ℕ))
      → get_or (session edition w bursts).wall k blank ≡ get_or (session edition (get_or w k blank ∷ []) bursts).wall 0 blank
  settings_alone w k h bursts =
      ap (λ (v : Wall). get_or v k blank) (session-each edition w bursts)
      ∙ get_or-map (changed_by_all (map read bursts)) w k blank blank h
      ∙ sym (ap (λ (v : Wall). get_or v 0 blank) (session-each edition (get_or w k blank ∷ []) bursts))

  answers_alone : (w : Wall) → GoodWall w → (k : ℕ) → k < length w → (bursts : List (List ℕ))
      → answers_from (get_or w k blank).id (session edition w bursts).replies ≡ (session edition (get_or w k blank ∷ []) bursts).replies
  unfolding by_burst
  answers_alone w good k h [] = refl
  answers_alone w good k h (b ∷ bursts) =
      let p = get_or w k blank in
      let v = (answered w (read b)).wall in
      let q = get_or v k blank in
      let then : q ≡ changed (read b) p = ap (λ (u : Wall). get_or u k blank) (answered-each w (read b)) ∙ get_or-map (changed (read b)) w k blank blank h in
      let same_id : p.id ≡ q.id = sym (ap (λ (x : Panel). x.id) then ∙ (kept-names (read b).verdict (read b).part p).0) in
      let own : q ∷ [] ≡ (answered (p ∷ []) (read b)).wall = ap (λ (x : Panel). x ∷ []) then ∙ sym (answered-each (p ∷ []) (read b)) in
      ap₂ (λ (x : Reply) (xs : List Reply). x ∷ xs) (answer_alone w good k h (read b))
      (ap (λ (i : MonitorId). answers_from i (session edition v bursts).replies) same_id
      ∙ answers_alone v (answered-good w good (read b)) k (rw (answered-count w (read b)) h) bursts
      ∙ ap (λ (u : Wall). (session edition u bursts).replies) own)

pub as_alone : AsAlone
as_alone edition t f k h bursts = (settings_alone edition (panels_of t) k h bursts, answers_alone edition (panels_of t) f.good k h bursts)

pub own_record : OwnRecord
own_record edition t u f g names k h same bursts =
    let (wall, answers) = as_alone edition t f k h bursts in
    let (wall', answers') = as_alone edition u g k (rw (← names.0) h) bursts in (
      wall ∙ ap (λ (p : Panel). get_or (session edition (p ∷ []) bursts).wall 0 blank) same ∙ sym wall',
      answers ∙ ap (λ (p : Panel). (session edition (p ∷ []) bursts).replies) same ∙ sym answers'
          ∙ ap (λ (p : Panel). answers_from p.id (session edition (panels_of u) bursts).replies) (sym same),
    )
