-- What callers cite of the settings. Assumes nothing.
use mathlib.Core.Path.{◌≡◌, refl, sym, ap, ◌∙◌}
use mathlib.Core.Bool.{Bool, true, false, cond, not, false≢true, and-false, ◌&&◌, ◌||◌}
use mathlib.Core.List.{List, [], ◌∷◌, flatten}
use Prim.Native.Nat.{ℕ, suc, ◌+◌, ◌-◌, ◌≤◌, ◌<◌}
use native.Mathlib.Numerals.{add-one}
use native.Mathlib.Omega.{arith}
use borrow.Author.Tests.{leb-true, ltb-true, ne_eqb, eqb-true}
use lib.Dec.{eqb, leb, ltb}
use mathlib.Core.Logic.{◌⊎◌, inl, inr}
use Rattle.std.proofs.lemmas.Bool.{cases_lt, eqb-false}
use Rattle.std.proofs.lemmas.List.{get_or_past}
use lib.ListN.{length, get_or, drop, get_or-map}
use lib.Seq.{drop-cons, drop-length, get_or-drop, get_or-take}
use Rattle.settings.specs.declared.Profile.{Profile}
use Rattle.settings.specs.Settings.{Range, Setting, settings, setting, set_code, byte_count, place, within, all_allowed, in_ranges, values_of, allowed_by_row, fresh_values, row_count, most_values, value_count, video_row, row}
use Rattle.settings.specs.Private.Numbers.{allowed_values, ranges_of, first_range}
use Rattle.lists.specs.Lists.{each}
use Rattle.lists.proofs.Both.{both}
use Rattle.lists.proofs.Each.{alike}
use Rattle.lists.proofs.Flat.{in_flat, flat_fits, flat_apart}

-- what stands past the last row
abbrev pub no_setting : Setting
no_setting = row 0 0 [] []

-- What `==` and `!=` of two rows say.
pub eq_same : {b : Bool} {j k : ℕ} → b ≡ eqb j k → b ≡ true → j ≡ k
eq_same {j = j} {k = k} e t = eqb-true j k (sym e ∙ t)

pub eq_other : {b : Bool} {j k : ℕ} → b ≡ eqb j k → b ≡ false → j ≡ k → ⊥
eq_other {j = j} {k = k} e f = eqb-false j k (sym e ∙ f)

pub ne_same : {b : Bool} {j k : ℕ} → b ≡ not (eqb j k) → b ≡ false → j ≡ k
ne_same {j = j} {k = k} e f = go (eqb j k) refl (sym e ∙ f)
  where
    go : (t : Bool) → eqb j k ≡ t → not t ≡ false → j ≡ k
    go true is n = eqb-true j k is
    go false is n = absurd (false≢true (sym n))

pub ne_other : {b : Bool} {j k : ℕ} → b ≡ not (eqb j k) → b ≡ true → j ≡ k → ⊥
ne_other {j = j} {k = k} e t = go (eqb j k) refl (sym e ∙ t)
  where
    go : (t : Bool) → eqb j k ≡ t → not t ≡ true → j ≡ k → ⊥
    go true is n = absurd (false≢true n)
    go false is n = eqb-false j k is

-- Set codes rise with the rows.
pub codes_rise : {row : ℕ} → suc row < row_count → set_code row < set_code (suc row)
unfolding settings
codes_rise {row} h = ltb-true _ _ (alike (λ k. ltb (set_code k) (set_code (suc k))) (λ k. true) (row_count - 1) refl {k = row} (omega arith))

-- A rule that holds at every place of either profile's table, by two tests.
pub alike_by : {A : Type 0} (f g : Profile → ℕ → A) (n : ℕ) → each (f Profile.General) n ≡ each (g Profile.General) n → each (f Profile.Phoenix) n ≡ each (g Profile.Phoenix) n
    → (profile : Profile) {k : ℕ} → k < n → f profile k ≡ g profile k
alike_by f g n e d Profile.General h = alike (f Profile.General) (g Profile.General) n e h
alike_by f g n e d Profile.Phoenix h = alike (f Profile.Phoenix) (g Profile.Phoenix) n d h

-- The sizes that the table is named by are its own.
pub row_count_lem : length settings ≡ row_count
unfolding settings
row_count_lem = refl

pub value_count_lem : length allowed_values ≡ value_count
unfolding settings allowed_by_row allowed_values flatten
value_count_lem = refl

pub byte-count-few : {row : ℕ} → row < row_count → byte_count row ≤ most_values
unfolding settings
byte-count-few h = leb-true _ most_values (alike (λ k. leb (byte_count k) most_values) (λ k. true) row_count refl h)

pub byte-count_some : {row : ℕ} → row < row_count → 0 < byte_count row
unfolding settings
byte-count_some h = ltb-true 0 _ (alike (λ k. ltb 0 (byte_count k)) (λ k. true) row_count refl h)

pub fresh-count : (profile : Profile) → length (fresh_values profile) ≡ value_count
unfolding settings fresh_values flatten
fresh-count Profile.General = refl
fresh-count Profile.Phoenix = refl

unfoldable pub listed : ℕ → List ℕ → Bool
listed v [] = false
listed v (x ∷ xs) = eqb x v || listed v xs

-- of a byte, the ranges of colour temperature allow what 01 lists, and nothing else
pub colour_temperatures : (profile : Profile) {v : ℕ} → v < 256 → in_ranges profile 4 (v ∷ []) ≡ listed v (0 ∷ 1 ∷ 3 ∷ 4 ∷ 5 ∷ 6 ∷ 9 ∷ 10 ∷ 13 ∷ [])
unfolding settings within all_allowed listed
colour_temperatures profile h =
    alike_by (λ profile v. in_ranges profile 4 (v ∷ [])) (λ profile v. listed v (0 ∷ 1 ∷ 3 ∷ 4 ∷ 5 ∷ 6 ∷ 9 ∷ 10 ∷ 13 ∷ [])) 256 refl refl profile h

allowed_of_row : (row : ℕ) → get_or (allowed_by_row Profile.General) row [] ≡ (setting row).allowed Profile.General
unfolding allowed_by_row
allowed_of_row row = get_or-map (λ (s : Setting). s.allowed Profile.General) settings row no_setting

-- Both profiles have as many values in a row.
pub as_many : (profile : Profile) (row : ℕ) → length ((setting row).allowed profile) ≡ byte_count row
as_many Profile.General row = refl
as_many Profile.Phoenix row =
    sym (get_or-map (λ (s : Setting). length (s.allowed Profile.Phoenix)) settings row no_setting)
    ∙ unfold settings in get_or-map (λ (s : Setting). length (s.allowed Profile.General)) settings row no_setting

-- Places: a row's values are among the 20, no two rows' overlap, and what is allowed there is what the row allows.
pub place_fits : (row : ℕ) → place row + byte_count row ≤ value_count
unfolding settings allowed_by_row flatten
place_fits row = rw (← allowed_of_row row) (flat_fits (allowed_by_row Profile.General) row)

pub value_of : (row k : ℕ) (values : List ℕ) → k < byte_count row → get_or (values_of row values) k 0 ≡ get_or values (place row + k) 0
value_of row k values h = rw (get_or-take, get_or-drop)

pub places_apart : (j k : ℕ) → j < k → place j + byte_count j ≤ place k
places_apart j k h = rw (← allowed_of_row j) (flat_apart (allowed_by_row Profile.General) j k h)

pub at_place : (row k : ℕ) → k < byte_count row → get_or ((setting row).allowed Profile.General) k [] ≡ ranges_of (place row + k)
unfolding allowed_values
at_place row k h = sym (in_flat (allowed_by_row Profile.General) row k [] (rw (allowed_of_row row) h) ∙ rw (allowed_of_row row))

-- Every value byte has a first range.
pub first_and_more : {p : ℕ} → p < value_count → ranges_of p ≡ first_range p ∷ drop 1 (ranges_of p)
unfolding settings allowed_by_row allowed_values flatten
first_and_more h = alike ranges_of (λ p. first_range p ∷ drop 1 (ranges_of p)) value_count refl h

-- But for the video, a Phoenix panel's rows are a general panel's.
pub all_else : (row : ℕ) → (row ≡ video_row → ⊥) → (setting row).allowed Profile.Phoenix ≡ (setting row).allowed Profile.General
unfolding settings
all_else row ne = go (cases_lt row row_count)
  where
    go : (row < row_count) ⊎ (row_count ≤ row) → (setting row).allowed Profile.Phoenix ≡ (setting row).allowed Profile.General
    go (inl h) =
        rw (ne_eqb row video_row ne) at
        (alike (λ k. cond (eqb k video_row) [] ((setting k).allowed Profile.Phoenix)) (λ k. cond (eqb k video_row) [] ((setting k).allowed Profile.General)) row_count refl h)
    go (inr h) = rw (get_or_past settings row no_setting h) refl

-- Values are allowed only where there are as many as the row has.
other-count : (rs : List (List Range)) (vs : List ℕ) → (length vs ≡ length rs → ⊥) → all_allowed rs vs ≡ false
unfolding all_allowed
other-count [] [] h = absurd (h refl)
other-count [] (v ∷ vs) h = refl
other-count (r ∷ rs) [] h = refl
other-count (r ∷ rs) (v ∷ vs) h = rw (other-count rs vs (λ e. h (ap suc e))) (and-false (within r v))

allowed-count : (rs : List (List Range)) (vs : List ℕ) → all_allowed rs vs ≡ true → length vs ≡ length rs
unfolding all_allowed
allowed-count [] [] e = refl
allowed-count [] (v ∷ vs) e = absurd (false≢true e)
allowed-count (r ∷ rs) [] e = absurd (false≢true e)
allowed-count (r ∷ rs) (v ∷ vs) e = ap suc (allowed-count rs vs (both (within r v) _ e).1)

-- Values tried one after the other: what is allowed from value k on.
unfoldable pub allowed_after : List (List Range) → List ℕ → ℕ → Bool
allowed_after rs vs k = all_allowed (drop k rs) (drop k vs)

pub allowed-step : (rs : List (List Range)) (vs : List ℕ) (k : ℕ) → k < length rs → k < length vs
    → allowed_after rs vs k ≡ within (get_or rs k []) (get_or vs k 0) && allowed_after rs vs (k + 1)
unfolding allowed_after all_allowed
allowed-step rs vs k h hv = rw (drop-cons rs k [] h, drop-cons vs k 0 hv, add-one)

pub allowed_end : (rs : List (List Range)) (vs : List ℕ) (k : ℕ) → k ≡ length rs → k ≡ length vs → allowed_after rs vs k ≡ true
unfolding allowed_after all_allowed
allowed_end rs vs k e d =
    let no-ranges = rw (← e) at (drop-length rs) in
    let no-values = rw (← d) at (drop-length vs) in
    rw (no-ranges, no-values)

pub ranges_many : (profile : Profile) (row : ℕ) (vs : List ℕ) → in_ranges profile row vs ≡ true → length vs ≡ byte_count row
ranges_many profile row vs e = allowed-count ((setting row).allowed profile) vs e ∙ as_many profile row

pub other_many : (profile : Profile) (row : ℕ) (vs : List ℕ) → (length vs ≡ byte_count row → ⊥) → in_ranges profile row vs ≡ false
other_many profile row vs h = other-count ((setting row).allowed profile) vs (λ e. h (e ∙ as_many profile row))

-- a profile that is not Phoenix is general
pub is_general : (profile : Profile) → (profile ≡ Profile.Phoenix → ⊥) → profile ≡ Profile.General
is_general Profile.General h = refl
is_general Profile.Phoenix h = absurd (h refl)
