-- What is told of the values of a record that is kept, row by row. Assumes nothing.
use mathlib.Core.Path.{◌≡◌, refl, sym, ap, subst, ◌∙◌}
use mathlib.Core.Bool.{Bool, true, false, false≢true}
use mathlib.Core.Logic.{inl, inr, ⊎_elim}
use mathlib.Core.List.{List, ◌∷◌, Memᴰ}
use Prim.Native.Nat.{ℕ, ◌<◌}
use borrow.Author.Tests.{eqb-true, eqb-false}
use lib.Dec.{eqb}
use lib.ListN.{get_or}
use lib.Seq.{get_or-set_same, get_or-set_other}
use Rattle.settings.specs.declared.Profile.{Profile}
use Rattle.settings.specs.Settings.{set_code, values_of, values_with, row_count}
use Rattle.models.specs.Models.{model_in}
use Rattle.models.proofs.Laws.{allowed_many}
use Rattle.panels.proofs.Values.{set-row}
use Rattle.image_forms.specs.declared.Form.{Form}
use Rattle.image_faults.specs.declared.Fault.{Fault}
use Rattle.image_record.specs.Field.{values_in, behind}
use Rattle.image_record.proofs.OnTheWay.{seen_with}
use Rattle.image_record.proofs.Steps.{Stands}
use Rattle.image_record.proofs.Gathering.{Gathering, taken_on, passed_on, there}
use Rattle.image_read.specs.Entries.{Entry, Without}
use Rattle.image_read.proofs.Order.{codes_apart}
use Rattle.image_salvage.proofs.Walked.{Walked, stay, took, told, entry_at, walked_seen}
use Rattle.demands.specs.Salvage.{TellsRow}

-- what is told of a row
pub record RowTold (profile : Profile) (t : List Bool) (w : List ℕ) (es : List Entry) (fs : List Fault) (r : ℕ) : Type 0 where
  pub unseen : get_or t r false ≡ false → Without (set_code r) es
  pub seen : get_or t r false ≡ true → (e : Entry) × Memᴰ e es × (e.code ≡ set_code r)
  pub tells : TellsRow profile es fs r (values_of r w)

-- one field more, of another row: before the others
more_told : {profile : Profile} {t : List Bool} {w : List ℕ} {es : List Entry} {fs gs : List Fault} {r : ℕ} (e : Entry) → (e.code ≡ set_code r → ⊥)
    → ((f : Fault) → Memᴰ f fs → Memᴰ f gs) → RowTold profile t w es fs r → RowTold profile t w (e ∷ es) gs r
more_told {es} {fs} {gs} {r} e other grow k = record {
  unseen = λ u. (other, k.unseen u);
  seen = λ u. let (d, in-es, c) = k.seen u in (d, Memᴰ.tail in-es, c);
  tells = ⊎_elim (λ x. inl (x.0, Memᴰ.tail x.1, x.2, x.3)) (λ x. inr (x.0, ⊎_elim (λ w. inl (other, w)) (λ m. inr (grow (Fault.NotAllowed (set_code r)) m)) x.1)) k.tells;
}

module _ {form : Form} {profile : Profile} where
  module _ {b : Bool} {s : List Bool} {v l : List ℕ} {row : ℕ} (g : Gathering form profile s v) (h : Stands b form profile s v l row) {r : ℕ} (k : r < row_count) where
    -- the row of the field is another
    other-code : eqb r row ≡ false → get_or l 0 0 ≡ set_code r → ⊥
    other-code q c = eqb-false r row q (codes_apart k h.in_table (sym c ∙ h.code))

    still : eqb r row ≡ false → get_or s r false ≡ false → get_or (seen_with row s) r false ≡ false
    still q e = get_or-set_other s row r true false (eqb-false r row q) ∙ e

  took_row : {s t : List Bool} {v l w m : List ℕ} {es : List Entry} {fs : List Fault} → Gathering form profile s v → (row : ℕ) (h : Stands true form profile s v l row)
      → Walked form profile (seen_with row s) (values_with row (values_in row l) v) (behind row l) es fs t w m → (r : ℕ) → r < row_count → get_or s r false ≡ false
      → (get_or (seen_with row s) r false ≡ false → RowTold profile t w es fs r) → RowTold profile t w (entry_at row l ∷ es) fs r
  took_row {s} {t} {v} {l} {w} {es = es} {fs = fs} g row h a r k e ih = go (eqb r row) refl
    where
      here : RowTold profile t w (entry_at row l ∷ es) fs row
      here =
          let n = allowed_many (model_in profile v) row (values_in row l) h.allowed in
          let (on, same) = walked_seen (taken_on form profile g h) a row (get_or-set_same s row true false (there form profile g h)) in
          record {
            unseen = λ u. absurd (false≢true (sym u ∙ on));
            seen = λ u. (entry_at row l, Memᴰ.head refl, h.code);
            tells = inl (entry_at row l, Memᴰ.head refl, h.code, sym (same ∙ set-row row (values_in row l) v n g.in_range.full));
          }

      go : (b : Bool) → eqb r row ≡ b → RowTold profile t w (entry_at row l ∷ es) fs r
      go true q = subst (RowTold profile t w (entry_at row l ∷ es) fs) (sym (eqb-true r row q)) here
      go false q = more_told (entry_at row l) (other-code g h k q) (λ f m. m) (ih (still g h k q e))

  told-row : {s t : List Bool} {v l w m : List ℕ} {es : List Entry} {fs : List Fault} → Gathering form profile s v → (row : ℕ) (h : Stands false form profile s v l row)
      → Walked form profile (seen_with row s) v (behind row l) es fs t w m → (r : ℕ) → r < row_count → get_or s r false ≡ false
      → (get_or (seen_with row s) r false ≡ false → RowTold profile t w es fs r) → RowTold profile t w (entry_at row l ∷ es) (Fault.NotAllowed (get_or l 0 0) ∷ fs) r
  told-row {s} {t} {v} {l} {w} {es = es} {fs = fs} g row h a r k e ih = go (eqb r row) refl
    where
      here : RowTold profile t w (entry_at row l ∷ es) (Fault.NotAllowed (get_or l 0 0) ∷ fs) row
      here =
          let (on, same) = walked_seen (passed_on form profile g h) a row (get_or-set_same s row true false (there form profile g h)) in
          record {
            unseen = λ u. absurd (false≢true (sym u ∙ on));
            seen = λ u. (entry_at row l, Memᴰ.head refl, h.code);
            tells = inr (same ∙ g.fresh row h.free.new, inr (Memᴰ.head (ap Fault.NotAllowed (sym h.code))));
          }

      go : (b : Bool) → eqb r row ≡ b → RowTold profile t w (entry_at row l ∷ es) (Fault.NotAllowed (get_or l 0 0) ∷ fs) r
      go true q = subst (RowTold profile t w (entry_at row l ∷ es) (Fault.NotAllowed (get_or l 0 0) ∷ fs)) (sym (eqb-true r row q)) here
      go false q = more_told (entry_at row l) (other-code g h k q) (λ f m. Memᴰ.tail m) (ih (still g h k q e))

  pub walked_row : {s t : List Bool} {v l w m : List ℕ} {es : List Entry} {fs : List Fault} → Gathering form profile s v → Walked form profile s v l es fs t w m
      → (r : ℕ) → r < row_count → get_or s r false ≡ false → RowTold profile t w es fs r
  walked_row g stay r h e = record { unseen = λ u. tt; seen = λ u. absurd (false≢true (sym e ∙ u)); tells = inr (g.fresh r e, inl tt) }
  walked_row g (took row h a) r k e = took_row g row h a r k e (λ q. walked_row (taken_on form profile g h) a r k q)
  walked_row g (told row h a) r k e = told-row g row h a r k e (λ q. walked_row (passed_on form profile g h) a r k q)
