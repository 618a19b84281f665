-- A set that is a request has as many values as its row. Assumes nothing.
use Prim.Native.Nat.{ℕ, ◌≤◌, ◌<◌}
use mathlib.Core.Bool.{true, not, ◌&&◌}
use mathlib.Core.Path.{◌≡◌, sym, ◌∙◌}
use mathlib.Core.List.{List}
use native.Mathlib.Omega.{arith}
use lib.Dec.{leb, eqb}
use lib.ListN.{length, get_or, length-take}
use lib.Seq.{get_or-take}
use Rattle.lists.proofs.Both.{both}
use Rattle.settings.specs.Settings.{byte_count, most_values}
use Rattle.tiling.specs.Kinds.{largest}
use Rattle.models.specs.declared.Model.{Model}
use Rattle.models.specs.Models.{filled}
use Rattle.models.proofs.Filled.{length-filled}
use Rattle.models.proofs.Laws.{allowed_many}
use Rattle.std.proofs.Common.{Some}
use Rattle.codes.specs.declared.Code.{Code}
use Rattle.codes.specs.Found.{found_by}
use Rattle.packet.specs.declared.Edition.{Edition}
use Rattle.packet.specs.Edition.{carries}
use Rattle.requests.specs.declared.Request.{Request}
use Rattle.requests.specs.Request.{is_request, is_taken, may_set, values_of}

pub may_many : (model : Model) (row : ℕ) (vs : List ℕ) → may_set model row vs ≡ true → length vs ≡ byte_count row
may_many model row vs may = sym (length-filled row (largest model.kind) vs) ∙ allowed_many model row (filled row (largest model.kind) vs) may

module _ (edition : Edition) (r : Request) (row : ℕ) (e : is_request edition r ≡ true) (f : found_by r.code ≡ Some (Code.Set row)) where
  set-count : byte_count row ≤ r.count
  unfolding is_request is_taken
  set-count =
      let (few, rest) = both (leb r.count most_values) (carries edition r.group && is_taken r (found_by r.code)) e in
      let (line, taken) = both (carries edition r.group) (is_taken r (found_by r.code)) rest in
      let set : is_taken r (Some (Code.Set row)) ≡ true = rw f at taken in
      let (group, may) = both (not (eqb r.group.0 255)) (may_set r.model row (values_of r)) set in
      omega (arith, may_many r.model row (values_of r) may, length-take r.count r.values)

  -- so that they are the first of the request's array
  pub value_is : (k : ℕ) → k < byte_count row → get_or r.values k 0 ≡ get_or (values_of r) k 0
  value_is k h = sym (get_or-take r.count r.values k 0 (omega (arith, set-count)))
