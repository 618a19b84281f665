-- A request as a step of `host_play` or `qx_play` tells it: ID, group, code, then the values, for a panel of a model that is told
-- beside it, or by a number in front of it, the profile's and twice the kind's.
use Rattle.std.specs.Prelude.{ℕ, ◌-◌, ◌/◌, ◌%◌, cond, List, [], ◌∷◌, ltb, length, get_or, take, drop, replicate, Option, Some, None, option_and_then}
use Rattle.lists.specs.Lists.{laid_over}
use Rattle.settings.specs.Settings.{most_values}
use Rattle.tiling.specs.Kinds as kinds
use Rattle.settings.specs.Profiles as profiles
use Rattle.models.specs.declared.Model.{Model}
use Rattle.packet.specs.Packet.{monitor_id, group_id}
use Rattle.requests.specs.declared.Request.{Request}

-- how many bytes stand before the values
abbrev pub step_head : ℕ
step_head = 3

-- of the values those are kept that a request has room for, and all are counted
unfoldable pub request_of : Model → List ℕ → Request
request_of model s = record {
  model = model;
  id = monitor_id (get_or s 0 0);
  group = group_id (get_or s 1 0);
  code = get_or s 2 0;
  values = laid_over (take most_values (drop step_head s)) (replicate most_values 0);
  count = length s - step_head;
}

-- none where a step is too short
unfoldable pub told_for : Model → List ℕ → Option Request
told_for model s = cond (ltb (length s) step_head) None (Some (request_of model s))

unfoldable pub told_with_model : List ℕ → Option Request
told_with_model [] = None
told_with_model (n ∷ s) = option_and_then (λ kind. option_and_then (λ profile. told_for (record { profile = profile; kind = kind }) s) (profiles.profile_with (n % 2))) (kinds.kind_with (n / 2))
