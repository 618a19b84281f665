use mathlib.Core.Path.{◌≡◌, refl, sym}
use mathlib.Core.Bool.{false, cond}
use mathlib.Core.List.{List, [], ◌∷◌}
use Prim.Native.Nat.{ℕ, ◌<◌}
use borrow.Author.Tests.{ne_eqb}
use Rattle.lists.proofs.Each.{alike}
use Rattle.settings.specs.Settings.{settings}
use Rattle.codes.specs.Found.{found_from, found_by}
use Rattle.settings.proofs.Laws.{listed}
use Rattle.std.proofs.Common.{rules, None}
use Rattle.codes.proofs.found_by.Goals as goal

-- `found_by` finds no code that is in no arm. Assumes nothing.
-- the arms' codes, the last first
abbrev codes : List ℕ
codes = 0xD0 ∷ 0xD1 ∷ 0x61 ∷ 0x62 ∷ 0x22 ∷ 0x23 ∷ 0xDD ∷ 0xDE ∷ 0x42 ∷ 0x43 ∷ 0x34 ∷ 0x35 ∷ 0x32 ∷ 0x33 ∷ 0xA3 ∷ 0xA4 ∷ 0x18 ∷ 0x19 ∷ []

-- the code is none of ks, as `rest` says it
abbrev NoneOf : ℕ → List ℕ → Type 0
NoneOf code [] = Unit {0}
NoneOf code (k ∷ ks) = NoneOf code ks × (code ≡ k → ⊥)

none_listed : (code : ℕ) (ks : List ℕ) → NoneOf code ks → listed code ks ≡ false
unfolding listed
none_listed code [] none = refl
none_listed code (k ∷ ks) none = rw (ne_eqb k code (λ e. none.1 (sym e))) (none_listed code ks none.0)

-- `found_by` tried on every byte
no_more : {code : ℕ} → code < 256 → NoneOf code codes → None ≡ found_by code
unfolding settings found_from listed
no_more {code} h none = sym (rw (none_listed code codes none) at (alike (λ k. cond (listed k codes) None (found_by k)) (λ k. None) 256 refl h))

pub returns-in_default : goal.returns-in_default
returns-in_default c = no_more c.ranges.code.fits (search rules)
