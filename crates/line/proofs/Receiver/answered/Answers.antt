use mathlib.Core.Path.{◌≡◌, refl, sym, ap, ◌∙◌}
use mathlib.Core.List.{List, [], ◌∷◌, ◌++◌}
use Prim.Native.Nat.{ℕ, ◌<◌}
use native.Mathlib.Omega.{arith}
use lib.ListN.{length, length-append}
use lib.Seq.{take_all, take-append-le}
use Rattle.packet.specs.Packet.{longest}
use Rattle.packet.specs.Reading.{reading_of}
use Rattle.packet.proofs.Readings.{same_reading, long_reading, seems_alike}
use Rattle.answers.specs.Played.{answered_on}
use Rattle.line.specs.Receiver.{burst_of}
use borrow.Author.Rules.{rules}
use Rattle.line.proofs.Receiver.answered.Goals as goal

pub returns-then-n-gt-LONGEST : goal.returns-then-n-gt-LONGEST
unfolding burst_of
returns-then-n-gt-LONGEST c =
    let a = c.args in
    let n : length a.self.bytes ≡ longest = search rules in
    let all = a.self.bytes ++ 0 ∷ [] in
    let burst = take_all a.self.count all (simp length-append (omega arith)) in
    let long : longest < length all = simp length-append (omega arith) in
    let head = c.seems_for.ensures ∙ sym (seems_alike a.self.edition a.self.bytes (0 ∷ []) (omega arith)) in
    c.answered_on.ensures ∙ ap (answered_on a.t) (same_reading refl refl head ∙ sym (ap (reading_of a.self.edition) burst ∙ long_reading a.self.edition all long))

pub returns : goal.returns
unfolding burst_of
returns c =
    let a = c.args in
    let n : length a.self.bytes ≡ longest = search rules in
    c.play.ensures ∙ ap (λ (b : List ℕ). answered_on a.t (reading_of a.self.edition b)) (sym (take-append-le a.self.count a.self.bytes (0 ∷ []) (omega arith)))
