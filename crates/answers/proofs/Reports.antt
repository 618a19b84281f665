-- A report's bytes: the get code, and the values behind it. Assumes nothing.
use mathlib.Core.Path.{◌≡◌, ap, ap₂, ◌∙◌}
use borrow.Rule.Slice.PartMut.{post_of}
use mathlib.Core.List.{List, ◌∷◌, ◌++◌}
use Prim.Native.Nat.{ℕ, ◌+◌, ◌-◌}
use native.Mathlib.Nat.{suc-sub-suc}
use native.Mathlib.Omega.{arith}
use lib.ListN.{length, take, drop, replicate}
use Rattle.std.proofs.lemmas.List.{drop-replicate}
use Rattle.panels.proofs.Values.{length-values}
use Rattle.settings.specs.Settings.{byte_count, place, most_values, value_count, values_of}
use Rattle.packet.specs.Packet.{monitor_id}
use Rattle.answers.specs.Reply.{report_from}

-- the get code, a row's values copied behind it, and nothing behind them
pub reported : (code row first count : ℕ) (vs part : List ℕ) → length vs ≡ value_count → first ≡ place row → count ≡ byte_count row
    → part ≡ take (first + count - first) (drop first vs)
    → code ∷ (part ++ post_of 1 (count + 1 - 1) (code ∷ replicate most_values 0)) ≡ (report_from (monitor_id 0) (code ∷ values_of row vs)).bytes
reported code row first count vs part m is-first is-count is =
    let n = length-values row vs m in
    let many : first + count - first ≡ byte_count row = omega arith in
    let few : count + 1 - 1 ≡ byte_count row = omega arith in
    let values : part ≡ values_of row vs = is ∙ ap₂ (λ (k j : ℕ). take k (drop j vs)) many is-first in
    rw (values, few, n, suc-sub-suc most_values (byte_count row)) (ap (λ (l : List ℕ). code ∷ (values_of row vs ++ l)) (drop-replicate (byte_count row) most_values 0))
