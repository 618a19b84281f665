use Prim.Native.Nat.{ℕ, ◌+◌, ◌-◌}
use mathlib.Core.List.{List, [], ◌∷◌, ◌++◌, append-nil, append_assoc}
use mathlib.Core.Path.{◌≡◌, ap, ◌∙◌}
use native.Mathlib.Omega.{arith}
use lib.ListN.{length, take, drop, replicate, length-append, length-replicate}
use lib.Seq.{take_at, drop-length}
use Rattle.lists.specs.Lists.{laid_at, laid_over}
use Rattle.lists.proofs.Laid.{laid_then, laid_over_lem}
use Rattle.xor.specs.Xor.{xor_all}
use Rattle.qx.specs.Message.{message}
use Rattle.qx.proofs.message.message.Goals as goal

-- Its parts are laid one behind the other. Assumes nothing.
module _ (n : ℕ) (head body blank : List ℕ) (room : length blank ≡ n) (size : length head + length body + 3 ≡ n) where
  abbrev two : List ℕ
  two = (length body + 2) ∷ 1 ∷ []

  abbrev bytes : List ℕ
  bytes = head ++ (length body + 2) ∷ 1 ∷ body

  long : length bytes ≡ n - 1
  long = length-append head ((length body + 2) ∷ 1 ∷ body) ∙ omega (arith, size)

  first : {a b c : List ℕ} → a ≡ laid_at 0 head blank → b ≡ laid_at (length head) two a → c ≡ laid_at (length head + 2) body b → c ≡ laid_at 0 bytes blank
  first ea eb ec =
      let both : length (head ++ two) ≡ length head + 2 = length-append head two in
      rw (ec, eb, ea)
      (ap (laid_at (length head + 2) body) (laid_then 0 (length head) head two blank (omega arith) (omega (arith, room, size)))
      ∙ laid_then 0 (length head + 2) (head ++ two) body blank (omega (arith, both)) (omega (arith, room, size))
      ∙ rw append_assoc)

  all : {c d : List ℕ} (sum : ℕ) → c ≡ laid_at 0 bytes blank → sum ≡ xor_all (take (n - 1) c) → d ≡ laid_at (n - 1) (sum ∷ []) c → d ≡ message head body
  unfolding message laid_over
  all sum ec es ed =
      let front : take (n - 1) (laid_at 0 bytes blank) ≡ bytes = ap (take (n - 1)) (laid_over_lem bytes blank) ∙ take_at bytes (drop (length bytes) blank) (n - 1) long in
      let whole : length (bytes ++ sum ∷ []) ≡ length blank = length-append bytes (sum ∷ []) ∙ omega (arith, long, room, size) in
      ed ∙ ap (laid_at (n - 1) (sum ∷ [])) ec ∙ laid_then 0 (n - 1) bytes (sum ∷ []) blank (omega (arith, long)) (omega (arith, room, size))
      ∙ laid_over_lem (bytes ++ sum ∷ []) blank
      ∙ rw (whole, drop-length blank, append-nil, es, ec, front)

pub returns : goal.returns
returns g c =
    let a = c.args in
    let blank = replicate g.row.N 0 in
    let room : length blank ≡ g.row.N = rw length-replicate in
    let size = c.requires.size in
    let sum : c.xor_all-sum.result ≡ xor_all (take (g.row.N - 1) c.put-3.new.out) = c.xor_all-sum.ensures in
    all g.row.N a.head.now a.body.now blank room size _ (first g.row.N a.head.now a.body.now blank room size c.put.ensures c.put-2.ensures c.put-3.ensures) sum c.put-4.ensures
