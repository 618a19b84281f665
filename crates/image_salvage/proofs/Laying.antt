-- A text laid piece behind piece over a list, from a place on, where the rest of it is known. Assumes nothing.
use mathlib.Core.Path.{◌≡◌, refl, sym, ap, ◌∙◌}
use mathlib.Core.List.{List, [], ◌++◌, append_assoc, append-nil}
use Prim.Native.Nat.{ℕ, ◌+◌, ◌≤◌}
use native.Mathlib.Omega.{arith}
use lib.ListN.{length, take, drop, take-append-drop}
use lib.Seq.{take_at, length-take-le, drop-drop}
use Rattle.lists.specs.Lists.{laid_at}
use Rattle.lists.proofs.Laid.{front, length_laid, behind_laid}

-- up to a place stands what stood there and the text so far; past it all is as it was
pub record Laying (from : ℕ) (first text now : List ℕ) (next : ℕ) (rest : List ℕ) : Type 0 where
  pub long : length now ≡ length first
  pub inside : next ≤ length first
  pub so_far : take next now ++ rest ≡ take from first ++ text
  pub behind : drop next now ≡ drop next first

pub begun : (from : ℕ) (first text : List ℕ) → from ≤ length first → Laying from first text first from text
begun from first text h = record { long = refl; inside = h; so_far = refl; behind = refl }

up_to_lem : (next : ℕ) (piece now : List ℕ) → next + length piece ≤ length now → take (next + length piece) (laid_at next piece now) ≡ take next now ++ piece
unfolding laid_at
up_to_lem next piece now h = take_at (take next now ++ piece) _ (next + length piece) (front next piece now (omega arith))

pub one_more : {from : ℕ} {first text now : List ℕ} {next : ℕ} (piece : List ℕ) {rest : List ℕ}
    → Laying from first text now next (piece ++ rest) → next + length piece ≤ length first
    → Laying from first text (laid_at next piece now) (next + length piece) rest
one_more {from} {first} {text} {now} {next} piece {rest} l h =
    let room : next + length piece ≤ length now = omega (arith, l.long) in
    record {
      long = length_laid next piece now room ∙ l.long;
      inside = h;
      so_far = ap (λ (s : List ℕ). s ++ rest) (up_to_lem next piece now room) ∙ append_assoc (take next now) piece rest ∙ l.so_far;
      behind = behind_laid next piece now room (next + length piece) (omega arith) ∙ past;
    }
  where
    past : drop (next + length piece) now ≡ drop (next + length piece) first
    past = sym (drop-drop (length piece) next now) ∙ ap (drop (length piece)) l.behind ∙ drop-drop (length piece) next first

-- where nothing is to come
pub all_laid : {from : ℕ} {first text now : List ℕ} {next : ℕ} → Laying from first text now next [] → from ≤ length first
    → (next ≡ from + length text) × (now ≡ laid_at from text first)
unfolding laid_at
all_laid {from} {first} {text} {now} {next} l h =
    let all : take next now ≡ take from first ++ text = sym (append-nil (take next now)) ∙ l.so_far in
    let n : next ≡ from + length text =
    sym (length-take-le next now (omega (arith, l.long, l.inside))) ∙ ap length all ∙ front from text first h in
    (n, sym (take-append-drop next now) ∙ rw (all, l.behind, n))
