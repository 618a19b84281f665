-- What goes out is printed. Assumes nothing.
use Rattle.std.proofs.Common.{sym, ap, ◌∙◌, take}
use Rattle.std.proofs.Output.{has_written_of_eq}
use Rattle.sample.specs.Shown.{shown_of}
use Rattle.sample.proofs.Sent.{fits, front_is}
use Rattle.sample.proofs.AnswerDisplay.fmt.Goals as goal

pub unreachable-requires : goal.unreachable-requires
unreachable-requires g c = let bytes = fits c.args.self.now.0 c.args.self.now.1 in cc

pub returns-clause-writes : goal.returns-clause-writes
returns-clause-writes g c = λ plain ok.
    let a = c.args.self.now in
    let n = c.in-Some.n in
    let bytes =
    c.front.ensures ∙ ap (take n) c.write_answer-sent.ensures.out_after
    ∙ front_is a.0 a.1 n (sym c.write_answer-sent.ensures.value ∙ c.in-Some.is) in
    has_written_of_eq _ _ _ _ _ (ap shown_of bytes) (c.write.ensures.writes plain ok)
