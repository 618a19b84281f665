use mathlib.Core.Path.{◌≡◌, refl, ◌∙◌}
use mathlib.Core.List.{List, [], ◌∷◌}
use Prim.Native.Nat.{ℕ}
use native.Mathlib.Omega.{arith}
use borrow.Author.Tests.{le-leb}
use lib.ListN.{length, set}
use Rattle.text.specs.Hex.{hex_count, hex_over}
use Rattle.sample.specs.Shown.{shown_count, shown_over}
use Rattle.sample.proofs.shown.Goals as goal

-- Hex where there are bytes, a dash where there are none and it fits. Assumes nothing.
some : (bytes out : List ℕ) → (length bytes ≡ 0 → ⊥) → (hex_count bytes out ≡ shown_count bytes out) × (hex_over bytes out ≡ shown_over bytes out)
unfolding shown_count shown_over
some [] out n = absurd (n refl)
some (b ∷ bs) out n = (refl, refl)

no_room : (bytes out : List ℕ) → length bytes ≡ 0 → length out ≡ 0 → (0 ≡ shown_count bytes out) × (out ≡ shown_over bytes out)
unfolding shown_count shown_over
no_room [] [] e f = (refl, refl)
no_room [] (x ∷ out) e f = absurd (omega arith)
no_room (b ∷ bs) out e f = absurd (omega arith)

dash : (bytes out : List ℕ) → length bytes ≡ 0 → (length out ≡ 0 → ⊥) → (1 ≡ shown_count bytes out) × (set out 0 45 ≡ shown_over bytes out)
unfolding shown_count shown_over
dash [] [] e n = absurd (n refl)
dash [] (x ∷ out) e n = let fits = le-leb 1 (length (x ∷ out)) (omega arith) in (rw fits, rw fits)
dash (b ∷ bs) out e n = absurd (omega arith)

pub returns-then-bytes-ne0-clause-value : goal.returns-then-bytes-ne0-clause-value
returns-then-bytes-ne0-clause-value c = c.hex.ensures.value ∙ (some c.args.bytes.now c.args.out.now (λ e. omega arith)).0

pub returns-then-bytes-ne0-clause-out_after : goal.returns-then-bytes-ne0-clause-out_after
returns-then-bytes-ne0-clause-out_after c = c.hex.ensures.out_after ∙ (some c.args.bytes.now c.args.out.now (λ e. omega arith)).1

pub returns-then-out-eq0-clause-value : goal.returns-then-out-eq0-clause-value
returns-then-out-eq0-clause-value c = (no_room c.args.bytes.now c.args.out.now (omega arith) (omega arith)).0

pub returns-then-out-eq0-clause-out_after : goal.returns-then-out-eq0-clause-out_after
returns-then-out-eq0-clause-out_after c = (no_room c.args.bytes.now c.args.out.now (omega arith) (omega arith)).1

pub returns-clause-value : goal.returns-clause-value
returns-clause-value c = (dash c.args.bytes.now c.args.out.now (omega arith) (λ e. omega arith)).0

pub returns-clause-out_after : goal.returns-clause-out_after
returns-clause-out_after c = (dash c.args.bytes.now c.args.out.now (omega arith) (λ e. omega arith)).1
