use Rattle.std.proofs.Common.{rules, ◌≡◌, ℕ, ◌*◌, ◌/◌, ◌%◌, ◌<◌, List, [], ◌∷◌, length, take, sym, ap, ◌∙◌, arith}
use mathlib.Core.List.{flatten}
use lib.Seq.{take_all}
use Rattle.lists.specs.Lists.{laid_over}
use Rattle.lists.proofs.Each.{in_each, length-each}
use Rattle.image_write.specs.Written.{high_low, record_size}
use Rattle.image_write.proofs.Lengths.{pairs_before, products}
use Rattle.image_write.proofs.Parts.{one_more_piece}
use Rattle.image_write.proofs.write.starts.Goals as goal
use Rattle.image_write.proofs.write.starts.Invariants.{pairs}

two_bytes : (n : ℕ) → n < 65536 → n / 256 % 256 ∷ n % 256 ∷ [] ≡ high_low n
two_bytes n h = let high : n / 256 % 256 ≡ n / 256 = omega arith in rw high

pairs_long : (size n : ℕ) → length (flatten (pairs size n)) ≡ 2 * n
pairs_long size n =
    ap (λ (ls : List (List ℕ)). length (flatten ls)) (sym (take_all n (pairs size n) (omega (arith, length-each (λ k. high_low (size * k)) n))))
    ∙ pairs_before (λ k. size * k) n n (omega arith)

pub loop-k-init : goal.loop-k-init
unfolding flatten laid_over
loop-k-init c = search rules

pub loop-k-preserved : goal.loop-k-preserved
loop-k-preserved c =
    let n = c.args.n in
    let size = c.record_size-size.result in
    let k = c.loop-k.k in
    let start = pairs_before (λ k. size * k) n k (omega arith) in
    let e = in_each (λ k. high_low (size * k)) n {k = k} [] (omega arith) in
    let whole = pairs_long size n in
    let product = products c.args.form k n in
    let up_to = product.2 (omega arith) in
    let at : size * k ≡ record_size c.args.form * k = ap (λ (s : ℕ). s * k) c.record_size-size.ensures in
    let small : size * k < 65536 = omega arith in
    let bytes = c.copy_from_slice.ensures.after ∙ c.to_be_bytes.ensures ∙ two_bytes (size * k) small ∙ sym e in
    one_more_piece (pairs size n) k (2 * k) c.args.out.now c.loop-k.out _ (omega (arith, length-each (λ k. high_low (size * k)) n)) (sym start) c.loop-k.invariant (omega arith)
    _ (rw e (omega arith)) bytes

pub returns : goal.returns
returns c =
    let n = c.args.n in
    let size = c.record_size-size.result in
    let all : take c.loop-k.k (pairs size n) ≡ pairs size n = take_all c.loop-k.k (pairs size n) (omega (arith, length-each (λ k. high_low (size * k)) n)) in
    c.loop-k.invariant ∙ ap (λ (ls : List (List ℕ)). laid_over (flatten ls) c.args.out.now) all
    ∙ ap (λ (s : ℕ). laid_over (flatten (pairs s n)) c.args.out.now) c.record_size-size.ensures
