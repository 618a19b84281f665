use mathlib.Core.Path.{◌≡◌, refl, ap, ◌∙◌}
use Prim.Native.Nat.{◌+◌, ◌-◌, ◌≤◌}
use mathlib.Core.List.{List, ◌++◌}
use native.Mathlib.Omega.{arith}
use borrow.Rule.Slice.PartMut.{mid_of, put_mid}
use Rattle.std.proofs.Common.{ℕ}
use lib.ListN.{length, take, drop}
use lib.Seq.{take_at}
use Rattle.lists.proofs.Laid.{laid_copy}
use Rattle.image_faults.specs.declared.Line.{Line}
use Rattle.image_faults.specs.Lines.{line_of}
use Rattle.image_faults.proofs.Laws.{line_short}
use Rattle.image_salvage.proofs.fields.tell.Goals as goal

pub returns-clause-lines_after : goal.returns-clause-lines_after
returns-clause-lines_after c =
    let a = c.args in
    let line = line_of a.number a.fault in
    let text : take c.line_of-line.result.count c.line_of-line.result.bytes ≡ line = ap (λ (l : Line). take l.count l.bytes) c.line_of-line.ensures ∙ take_at line _ (length line) refl in
    let room : a.at + length line ≤ length a.lines.now = omega (arith, line_short a.number a.fault) in
    let rest = length a.lines.now - a.at in
    let last = c.copy.ensures.laid ∙ ap (λ (s : List ℕ). s ++ drop (length s) (mid_of a.at rest a.lines.now)) text in
    ap (λ (l : List ℕ). put_mid a.at rest a.lines.now l) last ∙ laid_copy a.at line a.lines.now room
