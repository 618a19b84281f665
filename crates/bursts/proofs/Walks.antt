-- A list from a place on: the burst there and those behind it, or it is cut. Assumes nothing.
use Prim.Native.Nat.{ℕ, ◌+◌, ◌≤◌, ◌<◌}
use mathlib.Core.Bool.{Bool, true, false, cond}
use mathlib.Core.List.{List, [], ◌∷◌}
use mathlib.Core.Path.{◌≡◌, refl, sym, ap, ◌∙◌}
use native.Mathlib.Numerals.{add-one}
use native.Mathlib.Omega.{arith}
use borrow.Author.Tests.{leb-true, leb-false}
use lib.Dec.{leb}
use lib.ListN.{length, get_or, take, drop, length-drop}
use lib.Seq.{drop-cons, drop-drop, drop-length}
use Rattle.bursts.specs.Bursts.{Bursts, bursts_in}
use Rattle.bursts.proofs.Bursts.{first_of, no_burst, next-burst, cut-burst}

-- what is left at the end
pub bursts_end : (list : List ℕ) (at : ℕ) → at ≡ length list → bursts_in (drop at list) ≡ record { whole = []; cut = false }
bursts_end list at e = ap (λ (k : ℕ). bursts_in (drop k list)) e ∙ rw (drop-length list) no_burst

module _ (list : List ℕ) (at d n : ℕ) (is : n ≡ get_or list at d) (inside : at < length list) where
  from_here : drop at list ≡ n ∷ drop (at + 1) list
  from_here = drop-cons list at d inside ∙ rw (is, add-one)

  pub burst_at : at + 1 + n ≤ length list → bursts_in (drop at list) ≡ first_of (take n (drop (at + 1) list)) (bursts_in (drop (at + 1 + n) list))
  burst_at h =
      ap bursts_in from_here ∙ next-burst n (drop (at + 1) list) (rw length-drop (omega arith))
      ∙ ap (λ (l : List ℕ). first_of (take n (drop (at + 1) list)) (bursts_in l)) (drop-drop n (at + 1) list)

  pub cut_at : length list < at + 1 + n → bursts_in (drop at list) ≡ record { whole = []; cut = true }
  cut_at h = ap bursts_in from_here ∙ cut-burst n (drop (at + 1) list) (rw length-drop (omega arith))

  pub whole_there : (bursts_in (drop at list)).cut ≡ false → at + 1 + n ≤ length list
  whole_there e = go (leb (at + 1 + n) (length list)) refl
    where
      go : (t : Bool) → leb (at + 1 + n) (length list) ≡ t → at + 1 + n ≤ length list
      go true s = leb-true _ _ s
      go false s =
          let cut : true ≡ false = sym (ap (λ (b : Bursts). b.cut) (cut_at (leb-false _ _ s))) ∙ e in
          absurd (omega (arith, ap {B = ℕ} (λ (t : Bool). cond t 1 0) cut))

-- a list with a count byte at its front
module _ (list bytes : List ℕ) (n : ℕ) (is : list ≡ n ∷ bytes) where
  pub front_burst : n ≤ length bytes → bursts_in list ≡ first_of (take n bytes) (bursts_in (drop n bytes))
  front_burst h = ap bursts_in is ∙ next-burst n bytes h

  pub front_cut : length bytes < n → bursts_in list ≡ record { whole = []; cut = true }
  front_cut h = ap bursts_in is ∙ cut-burst n bytes h

  -- where it is not cut, the first burst is whole
  pub front_whole : (bursts_in list).cut ≡ false → n ≤ length bytes
  front_whole e = go (leb n (length bytes)) refl
    where
      go : (t : Bool) → leb n (length bytes) ≡ t → n ≤ length bytes
      go true s = leb-true _ _ s
      go false s =
          let cut : true ≡ false = sym (ap (λ (b : Bursts). b.cut) (front_cut (leb-false _ _ s))) ∙ e in
          absurd (omega (arith, ap {B = ℕ} (λ (t : Bool). cond t 1 0) cut))

-- and an empty one
pub front_none : (list : List ℕ) → length list ≡ 0 → bursts_in list ≡ record { whole = []; cut = false }
front_none [] e = no_burst
front_none (n ∷ bytes) e = absurd (omega arith)
