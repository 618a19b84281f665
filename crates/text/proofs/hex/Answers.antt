use mathlib.Core.Path.{◌≡◌, refl, ◌∙◌}
use mathlib.Core.List.{List, [], ◌∷◌, ◌++◌, append_assoc}
use Prim.Native.Nat.{ℕ, suc, ◌+◌, ◌*◌, ◌/◌, ◌%◌, ◌≤◌, ◌<◌}
use native.Mathlib.Numerals.{add-one}
use native.Mathlib.Omega.{arith}
use borrow.Author.Tests.{le-leb, lt-leb}
use lib.ListN.{length, get_or, take, drop, set}
use lib.Seq.{take-suc, take_all, length-take-le, drop-cons}
use Rattle.hex_digits.specs.Digits.{digit_of}
use Rattle.text.proofs.Spelled.{hex-append, length-hex}
use Rattle.text.specs.Hex.{hex_of, hex_count, hex_over}
use Rattle.text.proofs.hex.Goals as goal

-- two more digits behind some that stand at the front
two : (p q : List ℕ) (a b x y : ℕ) → set (set (p ++ a ∷ b ∷ q) (length p) x) (suc (length p)) y ≡ p ++ x ∷ y ∷ q
two [] q a b x y = refl
two (z ∷ p) q a b x y = rw (two p q a b x y)

two_at : (p q : List ℕ) (n a b x y : ℕ) → length p ≡ n → set (set (p ++ a ∷ b ∷ q) n x) (n + 1) y ≡ p ++ x ∷ y ∷ q
two_at p q n a b x y e = rw (add-one, ← e) (two p q a b x y)

spell : (bytes out₀ out : List ℕ) (i : ℕ) → i < length bytes → 2 * length bytes ≤ length out₀
    → out ≡ hex_of (take i bytes) ++ drop (2 * i) out₀
    → let b = get_or bytes i 0 in
    set (set out (2 * i) (digit_of (b / 16))) (2 * i + 1) (digit_of (b % 16)) ≡ hex_of (take (i + 1) bytes) ++ drop (2 * (i + 1)) out₀
unfolding hex_of
spell bytes out₀ out i h room e =
    let len : length (hex_of (take i bytes)) ≡ 2 * i = length-hex (take i bytes) ∙ rw (length-take-le i bytes (omega arith)) in
    let past : 2 * (i + 1) ≡ suc (suc (2 * i)) = omega arith in
    rw (
      e,
      past,
      add-one i,
      take-suc bytes i 0,
      hex-append (take i bytes),
      append_assoc (hex_of (take i bytes)),
      drop-cons out₀ (2 * i) 0 (omega arith),
      drop-cons out₀ (suc (2 * i)) 0 (omega arith),
    )
    (two_at (hex_of (take i bytes)) _ (2 * i) _ _ _ _ len)

pub returns-then-out-bytes-clause-value : goal.returns-then-out-bytes-clause-value
unfolding hex_count
returns-then-out-bytes-clause-value c = simp (lt-leb (2 * length c.args.bytes.now) (length c.args.out.now) (omega arith))

pub returns-then-out-bytes-clause-out_after : goal.returns-then-out-bytes-clause-out_after
unfolding hex_over
returns-then-out-bytes-clause-out_after c = simp (lt-leb (2 * length c.args.bytes.now) (length c.args.out.now) (omega arith))

pub loop-i-init : goal.loop-i-init
unfolding hex_of
loop-i-init c = refl

pub loop-i-preserved : goal.loop-i-preserved
loop-i-preserved c =
    let a = c.args in rw (c.digits.ensures, c.digits-in-loop-i.ensures) (spell a.bytes.now a.out.now c.loop-i.out c.loop-i.i c.loop-i-test.true (omega arith) c.loop-i.invariant)

pub returns-clause-value : goal.returns-clause-value
unfolding hex_count
returns-clause-value c = simp (le-leb (2 * length c.args.bytes.now) (length c.args.out.now) (omega arith))

pub returns-clause-out_after : goal.returns-clause-out_after
unfolding hex_over
returns-clause-out_after c =
    let a = c.args in
    let n = length a.bytes.now in
    let all : c.loop-i.i ≡ n = omega arith in
    let fit = le-leb (2 * n) (length a.out.now) (omega arith) in
    c.loop-i.invariant ∙ rw (fit, all, take_all n a.bytes.now (omega arith))
