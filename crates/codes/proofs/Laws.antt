-- What is found by a code is the row that has it. Assumes nothing.
use mathlib.Core.Path.{◌≡◌, refl, sym}
use mathlib.Core.Bool.{Bool, true, false, cond}
use Prim.Native.Nat.{ℕ, zero, suc, ◌+◌, ◌-◌, ◌<◌}
use native.Mathlib.Numerals.{add-one}
use native.Mathlib.Omega.{arith}
use borrow.Author.Tests.{eqb-true}
use lib.Dec.{eqb}
use lib.ListN.{drop}
use lib.Seq.{drop-cons}
use Rattle.std.proofs.Common.{Option, Some, None}
use Rattle.codes.specs.declared.Code.{Code}
use Rattle.codes.specs.declared.Code.TheVariants.{Set, Get}
use Rattle.settings.specs.Settings.{settings, set_code, get_code, row_count, kind_row, row}
use Rattle.codes.specs.Found.{found_from, found_by, field_by}
use Rattle.lists.proofs.Each.{alike}
use Rattle.settings.proofs.Laws.{no_setting}

-- Codes are distinct, and no get code is a set code: the get code of a setting finds its row, and a field's code its row too.
pub get_found : {row : ℕ} → kind_row < row → row < row_count → found_by (get_code row) ≡ Some (Code.Get row)
unfolding settings found_from
get_found {row} s h =
    let k : suc (row - 1) ≡ row = omega arith in
    rw k at (alike (λ k. found_by (get_code (suc k))) (λ k. Some (Code.Get (suc k))) (row_count - 1) refl {k = row - 1} (omega arith))

pub field_found : {row : ℕ} → row < row_count → field_by (set_code row) ≡ Some (Code.Set row)
unfolding settings found_from field_by
field_found h = alike (λ k. field_by (set_code k)) (λ k. Some (Code.Set k)) row_count refl h

-- what is found from row k on
found_after : ℕ → ℕ → Option Code
found_after c k = found_from c k (drop k settings)

found_step : (c k : ℕ) → k < row_count
    → found_after c k ≡ cond (eqb (set_code k) c) (Some (Code.Set k)) (cond (eqb (get_code k) c) (Some (Code.Get k)) (found_after c (k + 1)))
unfolding found_after found_from
found_step c k h = rw (drop-cons settings k no_setting (unfold settings in h), add-one)

-- What is found is a row of the nine settings, and the code is that row's.
abbrev pub IsFound : ℕ → Option Code → Type 0
IsFound c (Some (Set row)) = (row < row_count) × (set_code row ≡ c) × (kind_row < row)
IsFound c (Some (Get row)) = (row < row_count) × (get_code row ≡ c) × (kind_row < row)
IsFound c None = Unit {0}

either : (P : Option Code → Type 0) (t : Bool) {x y : Option Code} → (t ≡ true → P x) → (t ≡ false → P y) → P (cond t x y)
either P true f g = f refl
either P false f g = g refl

found_after_lem : (c n k : ℕ) → n + k ≡ row_count → kind_row < k → IsFound c (found_after c k)
found_after_lem c zero k e s = let all : k ≡ row_count = omega arith in rw all (unfold found_after found_from settings in tt)
found_after_lem c (suc n) k e s =
    let h : k < row_count = omega arith in
    rw (found_step c k h)
    (either (IsFound c) (eqb (set_code k) c) (λ set. (h, eqb-true _ _ set, s))
    (λ _. either (IsFound c) (eqb (get_code k) c) (λ get. (h, eqb-true _ _ get, s)) (λ _. found_after_lem c n (k + 1) (omega arith) (omega arith))))

pub found_right : (c : ℕ) → IsFound c (found_by c)
unfolding found_after
found_right c = found_after_lem c (row_count - 1) 1 refl (omega arith)

-- The row of a field: also the kind's.
abbrev pub IsField : ℕ → Option Code → Type 0
IsField c (Some (Set row)) = (row < row_count) × (set_code row ≡ c)
IsField c (Some (Get row)) = Unit {0}
IsField c None = Unit {0}

pub field_right : (c : ℕ) → IsField c (field_by c)
unfolding field_by
field_right c = either (IsField c) (eqb c (set_code kind_row)) (λ e. (unfold settings in omega arith, sym (eqb-true _ _ e))) (λ _. go (found_by c) (found_right c))
  where
    go : (f : Option Code) → IsFound c f → IsField c f
    go (Some (Set row)) (h, e, s) = (h, e)
    go (Some (Get row)) f = tt
    go None f = tt
