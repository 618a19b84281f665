-- The longest command is a set code with the values of the largest row. More data is available to no panel, whatever it is, so that
-- its first bytes stand for all of it. Assumes nothing.
use mathlib.Core.Path.{◌≡◌, refl, sym, ap, ◌∙◌}
use mathlib.Core.Bool.{Bool, true, false, cond}
use mathlib.Core.List.{List, [], ◌∷◌, map}
use Prim.Native.Nat.{ℕ, ◌<◌}
use native.Mathlib.Omega.{arith}
use lib.ListN.{length, get_or, take, length-take}
use lib.Seq.{take_all}
use Rattle.std.specs.Prelude.{Option, Some, None}
use Rattle.lists.proofs.Sizes.{by_size}
use Rattle.settings.specs.Settings.{row_count}
use Rattle.settings.proofs.Laws.{byte-count-few}
use Rattle.std.proofs.Common.{Option, Some, None}
use Rattle.codes.specs.declared.Code.{Code}
use Rattle.codes.specs.Found.{found_by}
use Rattle.codes.proofs.Laws.{IsFound, found_right}
use Rattle.packet.specs.declared.MonitorId.{MonitorId}
use Rattle.packet.specs.declared.Verdict.{Verdict}
use Rattle.packet.specs.Answered.{is_heard}
use Rattle.panels.specs.declared.Panel.{Panel}
use Rattle.panels.specs.Wall.{Wall, blank, place_of}
use Rattle.panels.specs.Addressed.{reaches}
use Rattle.answers.specs.Reply.{silence, most_reported}
use Rattle.answers.specs.Judged.{set_of, command_by, command, takes, judge, not_available, panel_after, reply_by}
use Rattle.answers.specs.Played.{turned, reply_from, answered}
use Rattle.answers.proofs.Orders.{taken_many, judge_not}

-- no panel takes so much
pub too_much : (d : List ℕ) → most_reported < length d → (p : Panel) → judge (command d) p ≡ not_available
unfolding command judge
too_much [] h p = absurd (omega (arith, h))
too_much (code ∷ []) h p = absurd (omega (arith, h))
too_much (code ∷ v ∷ vs) h p = go (found_by code) (found_right code)
  where
    kept : (row : ℕ) → row < row_count → (t : Bool) → takes row (v ∷ vs) p ≡ t → judge (set_of row (v ∷ vs)) p ≡ not_available
    kept row few true t = absurd (omega (arith, byte-count-few few, taken_many row (code ∷ v ∷ vs) p (omega arith) t))
    kept row few false t = judge_not (set_of row (v ∷ vs)) row (v ∷ vs) p refl t

    go : (f : Option Code) → IsFound code f → judge (command_by f (v ∷ vs)) p ≡ not_available
    go (Some (Code.Set row)) (few, _, _) = kept row few (takes row (v ∷ vs) p) refl
    go (Some (Code.Get row)) f = refl
    go None f = refl

-- so of a packet's data more than that is not needed
module _ (n : ℕ) (most : most_reported < n) (d : List ℕ) where
  pub first_stand : (p : Panel) → judge (command (take n d)) p ≡ judge (command d) p
  first_stand p = by_size _ n (length d)
      (λ h. too_much (take n d) (simp length-take (omega arith)) p ∙ sym (too_much d (omega arith) p))
      (λ h. ap (λ (l : List ℕ). judge (command l) p) (take_all n d h))

  reply_stands : (w : Wall) (i : MonitorId) (q : Option ℕ) → reply_from w i (command (take n d)) q ≡ reply_from w i (command d) q
  reply_stands w i None = refl
  reply_stands w i (Some k) = ap (reply_by i) (first_stand (get_or w k blank))

  -- whatever else was read of the burst
  pub answered_first : (w : Wall) (v : Verdict) (seems : Option MonitorId)
      → answered w (record { verdict = v; part = take n d; seems = seems }) ≡ answered w (record { verdict = v; part = d; seems = seems })
  unfolding answered turned
  answered_first w Verdict.Empty seems = refl
  answered_first w (Verdict.Damaged damage) seems = refl
  answered_first w (Verdict.Intact i g m) seems = λ t. record {
    wall = map (λ (p : Panel). cond (reaches i g p) (panel_after (first_stand p t) p) p) w;
    reply = cond (is_heard i g) (reply_stands w i (place_of i w) t) silence;
  }
