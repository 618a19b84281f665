use Rattle.std.proofs.Common.{rules, ◌≡◌, ℕ, List, [], ◌∷◌, sym, ◌∙◌}
use Rattle.std.proofs.iter.runs.Made.{chains}
use Rattle.std.specs.List.{fold}
use lib.Bits.{bit_xor}
use Rattle.xor.specs.Xor.{◌⊕◌, xor_all}
use Rattle.xor.proofs.Laws.{xor_assoc, zero_⊕, ⊕_zero}
use Rattle.xor.proofs.xor_all.Goals as goal

-- Summed from the first byte on, it comes to the same. Assumes nothing.
from_first : (sum : ℕ) (bytes : List ℕ) → fold bit_xor sum bytes ≡ sum ⊕ xor_all bytes
unfolding xor_all ◌⊕◌
from_first sum [] = sym (⊕_zero sum)
from_first sum (x ∷ bytes) = from_first (bit_xor sum x) bytes ∙ xor_assoc sum x (xor_all bytes)

pub returns : goal.returns
returns c =
    let folded : c.fold.result ≡ fold bit_xor 0 c.args.bytes.now = search (rules, chains) in
    folded ∙ from_first 0 c.args.bytes.now ∙ zero_⊕ _
