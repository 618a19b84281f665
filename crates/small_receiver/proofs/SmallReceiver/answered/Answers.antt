use mathlib.Core.Path.{◌≡◌, sym, ap, ◌∙◌}
use mathlib.Core.List.{List}
use Prim.Native.Nat.{ℕ}
use native.Mathlib.Omega.{arith}
use lib.ListN.{length}
use lib.Seq.{take_all}
use Rattle.packet.specs.declared.Edition.{Edition}
use Rattle.packet.specs.Front.{reading_by}
use Rattle.answers.specs.Played.{answered_on}
use Rattle.small_receiver.specs.Small.{longest_command, reading_in}
use borrow.Author.Rules.{rules}
use Rattle.small_receiver.proofs.SmallReceiver.answered.Goals as goal

pub returns-then-n-lt-LONGEST_COMMAND : goal.returns-then-n-lt-LONGEST_COMMAND
unfolding reading_in
returns-then-n-lt-LONGEST_COMMAND c = c.answered_by.ensures

pub returns : goal.returns
unfolding reading_in
returns c =
    let a = c.args in
    let n : length a.self.bytes ≡ longest_command = search rules in
    c.answered_by-2.ensures
    ∙ ap (λ (front : List ℕ). answered_on a.t (reading_by Edition.Sicp201 front a.self.count a.self.sum)) (sym (take_all a.self.count a.self.bytes (omega arith)))
