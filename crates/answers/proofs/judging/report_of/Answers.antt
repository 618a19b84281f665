use Rattle.std.proofs.Common.{◌≡◌, List, ◌∷◌, ℕ, ◌+◌, length, ap, ap₂, ◌∙◌, arith, rules}
use Rattle.answers.proofs.Reports.{reported}
use Rattle.settings.specs.Settings.{byte_count, value_count, values_of}
use Rattle.panels.proofs.Values.{length-values}
use Rattle.answers.specs.declared.Answer.{Answer}
use Rattle.answers.specs.declared.Reply.{Reply}
use Rattle.answers.specs.Reply.{report_from}
use Rattle.settings.proofs.Laws.{place_fits}
use Rattle.answers.proofs.judging.report_of.Goals as goal

pub overflow_add-count : goal.overflow_add-count
overflow_add-count c = omega (arith, c.byte_count-count.ensures.few)

pub overflow_add-first : goal.overflow_add-first
overflow_add-first c = omega (arith, place_fits c.args.row, c.byte_count-count.ensures.few)

pub slice_bounds-bytes-end : goal.slice_bounds-bytes-end
slice_bounds-bytes-end c = omega (arith, place_fits c.args.row, c.byte_count-count.ensures.few)

pub slice_bounds-copy_from_slice-end : goal.slice_bounds-copy_from_slice-end
slice_bounds-copy_from_slice-end c = omega (arith, place_fits c.args.row, c.byte_count-count.ensures.few)

pub returns : goal.returns
returns c =
    let a = c.args in
    let m : length a.p.values ≡ value_count = search rules in
    let bytes = reported c.get_code.result a.row _ _ a.p.values _ m c.place-first.ensures c.byte_count-count.ensures.count c.copy_from_slice.ensures.after in
    let n : length (values_of a.row a.p.values) ≡ byte_count a.row = length-values a.row a.p.values m in
    let count : c.byte_count-count.result + 1 ≡ length (c.get_code.result ∷ values_of a.row a.p.values) = omega (arith, n, c.byte_count-count.ensures.count) in
    ap₂ {C = Reply} (λ (l : List ℕ) (m : ℕ). record { answer = Answer.Report; id = a.p.id; bytes = l; count = m }) bytes count
    ∙ ap (λ (x : ℕ). report_from a.p.id (x ∷ values_of a.row a.p.values)) c.get_code.ensures
