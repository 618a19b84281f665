-- The packet fits into 40 bytes, and its front is what goes out. Assumes nothing.
use Rattle.std.proofs.Common.{◌≡◌, ℕ, ◌+◌, List, refl, sym, ap, ◌∙◌, length, take, replicate}
use Rattle.std.specs.Prelude.{Option, Some, None}
use lib.Seq.{take_at}
use Rattle.packet.specs.declared.Edition.{Edition}
use Rattle.packet.specs.Packet.{longest}
use Rattle.lists.specs.Lists.{laid_over}
use Rattle.answers.specs.declared.Reply.{Reply}
use Rattle.answers.specs.Reply.{sent_bytes, sent_of, output_of}

abbrev pub empty : List ℕ
empty = replicate longest 0

abbrev pub count_of : Option ℕ → ℕ
count_of (Some n) = n
count_of None = (longest + 1)

pub fits : (edition : Edition) (r : Reply) → sent_of edition empty r ≡ Some (length (sent_bytes edition r))
unfolding sent_of
fits edition r = refl

-- the front of the packet
pub front_is : (edition : Edition) (r : Reply) (n : ℕ) → sent_of edition empty r ≡ Some n → take n (output_of edition empty r) ≡ sent_bytes edition r
unfolding output_of laid_over
front_is edition r n e = take_at (sent_bytes edition r) _ n (ap count_of (sym (fits edition r) ∙ e))
