-- Digits are text, and a part's fit. Assumes nothing.
use Rattle.std.proofs.Common.{◌≡◌, ℕ, ◌*◌, ◌≤◌, ◌<◌, List, IsUtf8, rules, arith, sym, ap₂, subst, ◌∙◌, length, take, replicate, get_or}
use Rattle.std.proofs.Output.{has_written_of_eq}
use Rattle.std.proofs.lemmas.Str.{IsUtf8-from_ascii}
use Rattle.text.specs.Hex.{hex_of, hex_count, hex_over}
use Rattle.text.specs.Private.Parts.{most_in_part}
use Rattle.text.proofs.Spelled.{front_hex, ascii-hex}
use Rattle.text.proofs.write_part.Goals as goal

front_is : (part out : List ℕ) {new text : List ℕ} {n : ℕ} → text ≡ take n new → n ≡ hex_count part out → new ≡ hex_over part out → 2 * length part ≤ length out → text ≡ hex_of part
front_is part out e n f h = e ∙ ap₂ take n f ∙ front_hex part out h

is_text : (part text : List ℕ) → ((i : ℕ) → get_or part i 0 < 256) → text ≡ hex_of part → IsUtf8 text
is_text part text h e = subst IsUtf8 (sym e) (IsUtf8-from_ascii (hex_of part) (ascii-hex part h))

pub unreachable-requires : goal.unreachable-requires
unreachable-requires g c =
    let front = front_is c.args.part.now (replicate (2 * most_in_part) 0) c.front.ensures c.hex-n.ensures.value c.hex-n.ensures.out_after (omega arith) in
    c.in_default.ensures.cases.0 (is_text c.args.part.now c.front.result.now (λ i. search rules) front)

pub returns : goal.returns
returns g c = λ plain ok.
    let front = front_is c.args.part.now (replicate (2 * most_in_part) 0) c.front.ensures c.hex-n.ensures.value c.hex-n.ensures.out_after (omega arith) in
    has_written_of_eq _ _ _ _ _ (c.in-Ok.ensures.cases.0 ∙ front) (c.write_str.ensures.writes plain ok)
