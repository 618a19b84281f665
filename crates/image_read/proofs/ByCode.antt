-- What good entries store, by code: each row has what they give it. Assumes nothing.
use mathlib.Core.Path.{◌≡◌, refl, sym, ap, subst, ◌∙◌}
use mathlib.Core.Bool.{Bool, true, false, cond}
use mathlib.Core.List.{List, [], ◌∷◌}
use Prim.Native.Nat.{ℕ, ◌<◌}
use borrow.Author.Tests.{eqb-true, eqb-false}
use lib.Dec.{eqb}
use lib.ListN.{length}
use Rattle.settings.specs.declared.Profile.{Profile}
use Rattle.models.specs.declared.Model.{Model}
use Rattle.settings.specs.Settings.{set_code, fresh_values, values_with, value_count, row_count, values_of}
use Rattle.settings.proofs.Laws.{fresh-count}
use Rattle.panels.proofs.Values.{length_with, set-row, other_row, by_rows}
use Rattle.image_read.specs.Entries.{Entry, Without, given_or, given}
use Rattle.image_read.proofs.Entries.{row_of, row_is, GoodEntries, stored, count_of_lem, kept_by}

module _ (model : Model) where
  pub by_code : (es : List Entry) (values : List ℕ) → GoodEntries model es → length values ≡ value_count → {row : ℕ} → row < row_count
      → values_of row (stored es values) ≡ given_or (values_of row values) row es
  by_code [] values good full h = refl
  by_code (e ∷ es) values (g, w, good) full {row} h = go (eqb e.code (set_code row)) refl (by_code es with_e good full_e h)
    where
      with_e : List ℕ
      with_e = values_with (row_of e) e.values values

      full_e : length with_e ≡ value_count
      full_e = length_with (row_of e) e.values values (count_of_lem g) full

      go : (t : Bool) → eqb e.code (set_code row) ≡ t → values_of row (stored es with_e) ≡ given_or (values_of row with_e) row es
          → values_of row (stored es with_e) ≡ cond t e.values (given_or (values_of row values) row es)
      go true same ih =
          let c = eqb-true _ _ same in
          let r = row_is e h (sym c) in
          kept_by model row es with_e good (subst (λ (c : ℕ). Without c es) c w) full_e
          ∙ rw (← r) (set-row (row_of e) e.values values (count_of_lem g) full)
      go false other ih =
          let kept = other_row (row_of e) e.values values (count_of_lem g) full row (λ s. eqb-false _ _ other (sym g.code ∙ ap set_code (sym s))) in
          ih ∙ ap (λ (d : List ℕ). given_or d row es) kept

  pub stored-full : (es : List Entry) (values : List ℕ) → GoodEntries model es → length values ≡ value_count → length (stored es values) ≡ value_count
  stored-full [] values good full = full
  stored-full (e ∷ es) values (g, w, good) full =
      stored-full es (values_with (row_of e) e.values values) good (length_with (row_of e) e.values values (count_of_lem g) full)

  -- what is stored over fresh values is known by what each row is given
  pub stored_is : (profile : Profile) (es : List Entry) (values : List ℕ) → GoodEntries model es → length values ≡ value_count
      → ((row : ℕ) → row < row_count → given profile row es ≡ values_of row values) → stored es (fresh_values profile) ≡ values
  stored_is profile es values good full same =
      let n = fresh-count profile in
      by_rows (stored es (fresh_values profile)) values (stored-full es (fresh_values profile) good n) full (λ row h. by_code es (fresh_values profile) good n h ∙ same row h)
