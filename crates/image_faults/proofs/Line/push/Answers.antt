-- A character more, and a zero less behind it. Assumes nothing.
use mathlib.Core.Path.{◌≡◌, refl, sym, ap, ap₂, subst, ◌∙◌}
use mathlib.Core.List.{List, [], ◌∷◌, ◌++◌, append_assoc}
use Prim.Native.Nat.{ℕ, suc, ◌+◌, ◌-◌, ◌<◌}
use native.Mathlib.Omega.{arith}
use lib.ListN.{length, set, replicate, length-append}
use lib.Seq.{take_at}
use Rattle.image_faults.specs.declared.Line.{Line}
use Rattle.image_faults.specs.Lines.{longest_line, padded}
use Rattle.image_faults.specs.Private.Texts.{text_in, IsPadded}
use Rattle.image_faults.proofs.Line.push.Goals as goal

-- the first behind some
set_behind : (p q : List ℕ) (a b : ℕ) → set (p ++ a ∷ q) (length p) b ≡ p ++ b ∷ q
set_behind [] q a b = refl
set_behind (x ∷ p) q a b = rw (set_behind p q a b)

is_padded : (text : List ℕ) → IsPadded (padded text)
is_padded text = ap padded (sym (take_at text _ (length text) refl))

abbrev pushed : Line → ℕ → Line
pushed l b = record { bytes = set l.bytes l.count b; count = l.count + 1 }

one_more : (text : List ℕ) (b : ℕ) → length text < longest_line → pushed (padded text) b ≡ padded (text ++ b ∷ [])
one_more text b h =
    let left : longest_line - length text ≡ suc (longest_line - (length text + 1)) = omega arith in
    let count : length (text ++ b ∷ []) ≡ length text + 1 = length-append text (b ∷ []) in
    let bytes : set (text ++ replicate (longest_line - length text) 0) (length text) b ≡ (text ++ b ∷ []) ++ replicate (longest_line - length (text ++ b ∷ [])) 0 =
    ap (λ (n : ℕ). set (text ++ replicate n 0) (length text) b) left
    ∙ set_behind text _ 0 b
    ∙ sym (append_assoc text (b ∷ []) _)
    ∙ ap (λ (n : ℕ). (text ++ b ∷ []) ++ replicate (longest_line - n) 0) (sym count) in
    ap₂ (λ (v : List ℕ) (n : ℕ). record { bytes = v; count = n }) bytes (sym count)

pub returns-clause-padded : goal.returns-clause-padded
returns-clause-padded c =
    let l = c.args.self.now in
    subst IsPadded (sym (ap (λ (l : Line). pushed l c.args.b) c.requires.0 ∙ one_more (text_in l) c.args.b c.requires.1)) (is_padded (text_in l ++ c.args.b ∷ []))
