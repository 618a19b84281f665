-- Bytes that are put into a part of the output: they are laid over its front, behind what is there already. Assumes nothing.
use mathlib.Core.Path.{◌≡◌, refl, sym, ap, ◌∙◌}
use mathlib.Core.List.{List, [], ◌∷◌, ◌++◌, flatten}
use Prim.Native.Nat.{ℕ, ◌+◌, ◌-◌, ◌≤◌, ◌<◌}
use native.Mathlib.Numerals.{add-one}
use native.Mathlib.Omega.{arith}
use borrow.Rule.Slice.PartMut.{mid_of, put_mid}
use lib.ListN.{length, get_or, take, set}
use Rattle.lists.specs.Lists.{start_of, laid_at, laid_over}
use Rattle.lists.proofs.Flat.{flat_more, flat_fits}
use Rattle.lists.proofs.Laid.{laid_copy, laid_then, laid_over_lem, length_laid}
use Rattle.std.proofs.lemmas.Grind.{common_steps}

pub length_over : (b l : List ℕ) → length b ≤ length l → length (laid_over b l) ≡ length l
length_over b l h = ap length (sym (laid_over_lem b l)) ∙ length_laid 0 b l (omega arith)

-- two bytes, and a piece behind them
pub two_over : (a b : ℕ) (l : List ℕ) → 2 ≤ length l → set (set l 0 a) 1 b ≡ laid_over (a ∷ b ∷ []) l
unfolding laid_over
two_over a b [] h = absurd (omega arith)
two_over a b (x ∷ []) h = absurd (omega arith)
two_over a b (x ∷ y ∷ l) h = refl

pub headed : (a b k : ℕ) (s l : List ℕ) → 2 ≤ length l → k ≡ length s → put_mid 2 k (set (set l 0 a) 1 b) s ≡ laid_over (a ∷ b ∷ s) l
unfolding laid_over
headed a b k s [] h e = absurd (omega arith)
headed a b k s (x ∷ []) h e = absurd (omega arith)
headed a b k s (x ∷ y ∷ l) h e = rw e

-- a piece in the place of as many bytes
laid_piece : (at n : ℕ) (s l : List ℕ) → n ≡ length s → put_mid at n l s ≡ laid_at at s l
unfolding laid_at
laid_piece at n s l e = grind (arith, common_steps)

pub behind : (m : ℕ) (a b l : List ℕ) → m ≡ length a → m + length b ≤ length l → laid_at m b (laid_over a l) ≡ laid_over (a ++ b) l
behind m a b l e h = ap (laid_at m b) (sym (laid_over_lem a l)) ∙ laid_then 0 m a b l (omega arith) h ∙ laid_over_lem (a ++ b) l

-- a piece laid over the front of the rest
laid_rest : (m : ℕ) (b l : List ℕ) → m + length b ≤ length l → put_mid m (length l - m) l (laid_over b (mid_of m (length l - m) l)) ≡ laid_at m b l
unfolding laid_over
laid_rest m b l h = laid_copy m b l h

pub laid_next : (m : ℕ) (a b l h last : List ℕ) → h ≡ laid_over a l → m ≡ length a → m + length b ≤ length l
    → last ≡ laid_over b (mid_of m (length h - m) h) → put_mid m (length h - m) h last ≡ laid_over (a ++ b) l
laid_next m a b l h last so_far e room is = grind (arith, common_steps, length_over, put_mid, laid_rest, behind)

-- of some pieces one more, laid over the front of the rest or put in the place of as many bytes
module _ (ls : List (List ℕ)) (k m : ℕ) (l out last : List ℕ) (here : k < length ls) (at : m ≡ start_of ls k)
    (so_far : out ≡ laid_over (flatten (take k ls)) l) (room : length (flatten ls) ≤ length l) where
  pub one_fits : m + length (get_or ls k []) ≤ length l
  one_fits = omega (arith, flat_fits ls k)

  pub one_more : last ≡ laid_over (get_or ls k []) (mid_of m (length out - m) out) → put_mid m (length out - m) out last ≡ laid_over (flatten (take (k + 1) ls)) l
  one_more e = rw (add-one, flat_more ls k here) (laid_next m (flatten (take k ls)) (get_or ls k []) l out last so_far at one_fits e)

  pub one_more_piece : (n : ℕ) → n ≡ length (get_or ls k []) → last ≡ get_or ls k [] → put_mid m n out last ≡ laid_over (flatten (take (k + 1) ls)) l
  one_more_piece n many e =
      rw (e, so_far, add-one, flat_more ls k here)
      (laid_piece m n (get_or ls k []) (laid_over (flatten (take k ls)) l) many ∙ behind m (flatten (take k ls)) (get_or ls k []) l at one_fits)
