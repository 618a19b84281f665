use Rattle.std.proofs.Common.{◌≡◌, length, ap₂, ◌∙◌, rules}
use Rattle.answers.specs.declared.Played.{Played}
use Rattle.line.specs.declared.Heard.{Heard}
use Rattle.line.specs.Any.{heard_of}
use Rattle.small_receiver.specs.declared.SmallReceiver.{SmallReceiver}
use Rattle.small_receiver.specs.Small.{longest_command, at_mark}
use Rattle.small_receiver.proofs.SmallReceiverLineReceiver.quiet.Goals as goal

pub returns : goal.returns
unfolding at_mark
returns c =
    let a = c.args in
    let n : length a.self.bytes ≡ longest_command = search rules in
    let left = ap₂ {C = Heard SmallReceiver} (λ (r : SmallReceiver) (p : Played). heard_of r p) (c.open.ensures ∙ rw n) c.answered-played.ensures in record { law = left; mark = left }
