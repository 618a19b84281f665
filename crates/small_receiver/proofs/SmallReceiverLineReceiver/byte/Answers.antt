use mathlib.Core.Path.{◌≡◌, refl, sym}
use native.Mathlib.Omega.{arith}
use lib.ListN.{length}
use lib.Seq.{set_out}
use borrow.Author.Rules.{rules}
use Rattle.xor.specs.Xor.{◌⊕◌}
use Rattle.small_receiver.specs.Small.{longest_command, with_byte}
use Rattle.small_receiver.specs.Laws.{same_receiver}
use Rattle.small_receiver.proofs.SmallReceiverLineReceiver.byte.Goals as goal

pub returns-then-n-lt-LONGEST_COMMAND : goal.returns-then-n-lt-LONGEST_COMMAND
unfolding with_byte ◌⊕◌
returns-then-n-lt-LONGEST_COMMAND c = same_receiver refl c.counted.ensures refl

pub returns-else-n-lt-LONGEST_COMMAND : goal.returns-else-n-lt-LONGEST_COMMAND
unfolding with_byte ◌⊕◌
returns-else-n-lt-LONGEST_COMMAND c =
    let a = c.args in
    let n : length a.self.bytes ≡ longest_command = search rules in
    same_receiver (sym (set_out a.self.bytes a.self.count a.b (omega arith))) c.counted.ensures refl
