use mathlib.Core.Path.{sym, ap₂, ◌∙◌}
use Prim.Native.Nat.{ℕ, ◌+◌}
use Rattle.image_write.proofs.Lengths.{record_parts}
use Rattle.image_write.proofs.record_size.Goals as goal

pub returns : goal.returns
returns c = ap₂ (λ (m n : ℕ). m + n) c.head_size.ensures c.fields_size.ensures ∙ sym (record_parts c.args.form)
