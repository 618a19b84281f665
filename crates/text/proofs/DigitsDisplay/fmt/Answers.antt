-- A part more. Assumes nothing.
use Rattle.std.proofs.Common.{◌≡◌, ℕ, List, [], ◌++◌, rules, arith, refl, sym, ap, ap₂, ◌∙◌}
use mathlib.Core.List.{append_assoc}
use Rattle.std.proofs.lemmas.List.{take-append-drop, append-nil, nil_from_length}
use Rattle.std.proofs.Output.{has_written_append, has_written_of_eq}
use Rattle.text.specs.Hex.{hex_of}
use Rattle.text.proofs.Spelled.{hex-append}
use Rattle.text.proofs.DigitsDisplay.fmt.Goals as goal

-- the digits of a part and of what is behind it
joined : (done part behind left : List ℕ) → left ≡ part ++ behind → (done ++ hex_of part) ++ hex_of behind ≡ done ++ hex_of left
joined done part behind left e = append_assoc done (hex_of part) (hex_of behind) ∙ ap (λ (l : List ℕ). done ++ l) (sym (ap hex_of e ∙ hex-append part behind))

pub loop-left-init : goal.loop-left-init
loop-left-init g c = λ plain. ([], search rules, refl)

pub loop-left-smaller : goal.loop-left-smaller
loop-left-smaller g c = omega (arith, c.split_at.ensures.back_len, c.min.ensures)

pub loop-left-preserved : goal.loop-left-preserved
loop-left-preserved g c = λ plain.
    let (done, has, e) = c.loop-left.invariant plain in
    (done ++ hex_of c.split_at.result.0.now, has_written_append _ _ _ _ _ _ has (search rules), joined done _ _ _ (sym (ap₂ (λ (a b : List ℕ). a ++ b) c.split_at.ensures.front c.split_at.ensures.back ∙ take-append-drop _ _)) ∙ e)

pub returns-clause-writes : goal.returns-clause-writes
unfolding hex_of
returns-clause-writes g c = λ plain ok.
    let (done, has, e) = c.loop-left.invariant plain in
    has_written_of_eq _ _ _ _ _ (sym (append-nil done) ∙ ap (λ (l : List ℕ). done ++ hex_of l) (sym (nil_from_length _ (omega arith))) ∙ e) has
