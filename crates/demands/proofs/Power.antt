-- Power off and on. Assumes nothing.
use Prim.Native.Nat.{ℕ, zero, suc}
use mathlib.Core.Bool.{true, false, cond, not, false≢true, ◌&&◌, ◌||◌, and-true}
use mathlib.Core.Path.{◌≡◌, refl, sym, ap, ◌∙◌}
use mathlib.Core.List.{List, [], ◌∷◌, flatten}
use native.Mathlib.Omega.{arith}
use borrow.Author.Tests.{eq-eqb}
use lib.Dec.{eqb}
use lib.ListN.{get_or}
use Rattle.lists.specs.Lists.{same}
use Rattle.lists.proofs.Both.{both}
use Rattle.models.specs.declared.Model.{Model}
use Rattle.settings.specs.Settings.{settings, allowed_by_row, ◌to◌, within, all_allowed, values_of, power_row, off}
use Rattle.codes.specs.Found.{found_from}
use Rattle.models.specs.Models.{allowed_for, filled}
use Rattle.packet.specs.declared.MonitorId.{MonitorId}
use Rattle.packet.specs.declared.Control.{Control}
use Rattle.panels.specs.declared.Panel.{Panel}
use Rattle.panels.specs.Wall.{model_of, blank}
use Rattle.panels.specs.Addressed.{reaches}
use Rattle.panels.specs.WellFormed.{GoodPanel}
use Rattle.answers.specs.Reply.{word_from}
use Rattle.answers.specs.Judged.{set_of, command, off_already, held_then, takes, judge, reply_by}
use Rattle.requests.specs.Request.{is_power_off}
use Rattle.host.specs.Machine.{nav_ends, ending}
use Rattle.answers.proofs.Orders.{is_off}
use Rattle.answers.proofs.Turned.{either_way}
use Rattle.answers.proofs.Formed.{off-same}
use Rattle.demands.proofs.Profiles.{own_model}
use Rattle.demands.proofs.ToOne.{set-reply, panel, asked_good, asked_replies}
use Rattle.demands.specs.Power.{PowerSet, OffStays, NavEnds}
use Rattle.std.proofs.lemmas.Grind.{common_steps}

-- above 2 nothing is allowed
above : (v : ℕ) → within (1 to 2) (suc (suc (suc v))) ≡ false
unfolding within
above v = grind (arith, common_steps)

-- power is 1 or 2, so that it is on where it is not off
on : (v : ℕ) → within (1 to 2) v ≡ true → eqb v 2 ≡ not (eqb v 1)
unfolding within
on zero e = absurd (false≢true e)
on (suc zero) e = refl
on (suc (suc zero)) e = refl
on (suc (suc (suc v))) e = absurd (false≢true (sym (above v) ∙ e))

is_on : (model : Model) (values : List ℕ) → allowed_for model power_row (values_of power_row values) ≡ true
    → eqb (get_or values 1 0) 2 ≡ not (same (values_of power_row values) off)
unfolding settings allowed_by_row flatten all_allowed
is_on model [] e = absurd (false≢true e)
is_on model (k ∷ []) e = absurd (false≢true e)
is_on model (k ∷ v ∷ values) e =
    on v (sym (and-true (within (1 to 2) v)) ∙ (both (within (1 to 2) v && true) _ e).0) ∙ ap not (sym (is_off (k ∷ v ∷ values)))

-- what a panel takes of power
module _ (p : Panel) (good : GoodPanel p) where
  takes_power : (v : ℕ) → takes power_row (v ∷ []) p ≡ (eqb v 2 || eqb v 1 && eqb (get_or p.values 1 0) 2)
  unfolding settings takes off_already all_allowed within same filled
  takes_power zero = refl
  takes_power (suc zero) = sym (is_on (model_of p) p.values (good.in_range power_row (omega arith)))
  takes_power (suc (suc zero)) = refl
  takes_power (suc (suc (suc v))) = grind (arith, common_steps)

  answers_power : (i : MonitorId) (v : ℕ)
      → reply_by i (judge (command (0x18 ∷ v ∷ [])) p) ≡ word_from i (cond (eqb v 2 || eqb v 1 && eqb (get_or p.values 1 0) 2) Control.Ack Control.Nav)
  unfolding settings found_from command judge
  answers_power i v = grind (arith, common_steps, takes_power, set-reply)

pub power_set_lem : PowerSet
power_set_lem t f i k v n there r intact sets =
    asked_replies t f i k there r n intact ∙ ap (λ (d : List ℕ). reply_by i (judge (command d) (panel t f i k there))) sets ∙ answers_power (panel t f i k there) (asked_good t f i k there) i v

-- a panel whose power is 1 is off
off_by_value : (p : Panel) → get_or p.values 1 0 ≡ 1 → off_already power_row off p ≡ true
unfolding settings allowed_by_row flatten off_already same
off_by_value p e = is_off p.values ∙ eq-eqb _ 1 e

set-off : command (0x18 ∷ 1 ∷ []) ≡ set_of power_row off
unfolding settings found_from command
set-off = refl

pub off_stays : OffStays
off_stays w r i g n intact sets k h power =
    let p = get_or w k blank in
    own_model w r i g n power_row off intact (ap command sets ∙ set-off) k h
    ∙ either_way (reaches i g p && allowed_for (model_of p) power_row (held_then power_row off p)) (off-same power_row off p (off_by_value p power))

pub nav_ends_lem : NavEnds
unfolding settings is_power_off nav_ends ending
nav_ends_lem s d = refl
