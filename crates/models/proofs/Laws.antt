-- What callers cite of a model. Assumes nothing.
use mathlib.Core.Path.{◌≡◌, refl, sym}
use mathlib.Core.Bool.{Bool, true, and-true}
use mathlib.Core.List.{List, [], ◌∷◌, flatten}
use Prim.Native.Nat.{ℕ, ◌<◌}
use borrow.Author.Tests.{ne_eqb}
use lib.ListN.{length}
use Rattle.lists.proofs.Both.{both}
use Rattle.tiling.specs.declared.Kind.{Kind}
use Rattle.tiling.specs.Walls.{up_to}
use Rattle.tiling.specs.Kinds.{kind_number, in_wall}
use Rattle.settings.specs.declared.Profile.{Profile}
use Rattle.settings.specs.Settings.{settings, fresh_values, allowed_by_row, within, all_allowed, in_ranges, values_of, byte_count, row_count, kind_row, tiling_row}
use Rattle.settings.proofs.Laws.{alike_by, ranges_many}
use Rattle.models.specs.declared.Model.{Model}
use Rattle.models.specs.Models.{allowed_for}

-- Fresh values are allowed, whatever the kind: every kind has the wall of one panel.
pub fresh-allowed : (model : Model) {row : ℕ} → row < row_count → allowed_for model row (values_of row (fresh_values model.profile)) ≡ true
unfolding settings fresh_values allowed_by_row flatten within all_allowed in_wall up_to
fresh-allowed model {row} h = by_kind model.kind
  where
    by : Kind → Profile → ℕ → Bool
    by kind profile k = allowed_for (record { profile = profile; kind = kind }) k (values_of k (fresh_values profile))

    by_kind : (kind : Kind) → by kind model.profile row ≡ true
    by_kind Kind.FiveByFive = alike_by (by Kind.FiveByFive) (λ profile k. true) row_count refl refl model.profile h
    by_kind Kind.FifteenByTen = alike_by (by Kind.FifteenByTen) (λ profile k. true) row_count refl refl model.profile h

pub allowed_many : (model : Model) (row : ℕ) (vs : List ℕ) → allowed_for model row vs ≡ true → length vs ≡ byte_count row
allowed_many model row vs e = ranges_many model.profile row vs (both _ _ e).0

-- Of every row but the tiling's the ranges say all.
pub by_ranges : (model : Model) (row : ℕ) (vs : List ℕ) → (row ≡ tiling_row → ⊥) → in_ranges model.profile row vs ≡ allowed_for model row vs
by_ranges model row vs ne = sym (rw (ne_eqb row tiling_row ne) (and-true (in_ranges model.profile row vs)))

-- Only what is allowed of a tiling goes by the kind, and every kind's number is allowed.
pub kind_free : (m n : Model) {row : ℕ} (vs : List ℕ) → m.profile ≡ n.profile → (row ≡ tiling_row → ⊥) → allowed_for m row vs ≡ allowed_for n row vs
kind_free m n {row} vs e ne = rw (ne_eqb row tiling_row ne, e)

pub kind_allowed : (model : Model) (kind : Kind) → allowed_for model kind_row (kind_number kind ∷ []) ≡ true
unfolding settings within all_allowed
kind_allowed model Kind.FiveByFive = refl
kind_allowed model Kind.FifteenByTen = refl
