-- Entries that can be taken are all taken, and where there is no fault they can be. Assumes nothing.
use mathlib.Core.Path.{◌≡◌, refl, sym, ap, ap₂, ◌∙◌}
use mathlib.Core.Bool.{Bool, true, false, cond, ◌||◌, false≢true}
use mathlib.Core.List.{List, [], ◌∷◌, ◌++◌, flatten}
use Prim.Native.Nat.{ℕ, suc, ◌+◌, ◌<◌}
use native.Mathlib.Omega.{arith}
use borrow.Author.Tests.{ne_eqb, eqb-true, eqb-false}
use lib.Dec.{eqb}
use lib.ListN.{length, get_or, length-append, length-set}
use lib.Seq.{take_at, drop_at, get_or-set_other}
use Rattle.std.specs.Prelude.{Ok, is_ok, IsOk}
use Rattle.settings.specs.declared.Profile.{Profile}
use Rattle.models.specs.declared.Model.{Model}
use Rattle.std.proofs.Common.{Option, Some, None}
use Rattle.codes.specs.declared.Code.{Code}
use Rattle.settings.specs.Settings.{set_code, byte_count, values_of, values_with, row_count, value_count, kind_row, tiling_row}
use Rattle.codes.specs.Found.{field_by}
use Rattle.models.specs.Models.{kind_for, allowed_for, model_in}
use Rattle.codes.proofs.Laws.{field_found}
use Rattle.models.proofs.Laws.{allowed_many, kind_free}
use Rattle.image_forms.specs.declared.Form.{Form}
use Rattle.image_forms.specs.Forms.{has_field}
use Rattle.panels.proofs.Values.{length_with, other_row}
use Rattle.image_record.specs.declared.Step.{Step}
use Rattle.image_record.specs.Field.{values_in, misplaced, misfits, field_of, step_at, behind}
use Rattle.image_read.specs.Fields.{fields_from}
use Rattle.image_record.proofs.OnTheWay.{seen_with}
use Rattle.image_read.specs.Entries.{Entry, bytes_of, Without, HasAll, KindFirst}
use Rattle.image_record.proofs.Steps.{seen_apart, Free, Stands, stands, stands_it}
use Rattle.image_read.proofs.Steps.{fields-step}

-- the row of an entry's code
row_found : Option Code → ℕ
row_found (Some (Code.Set row)) = row
row_found (Some (Code.Get row)) = 0
row_found None = 0

unfoldable pub row_of : Entry → ℕ
unfolding row_found
row_of e = row_found (field_by e.code)

pub row_is : (e : Entry) {row : ℕ} → row < row_count → set_code row ≡ e.code → row_of e ≡ row
unfolding row_of row_found
row_is e h c = ap row_found (ap field_by (sym c) ∙ field_found h)

-- an entry of a row, with values that a panel of the model may have
pub record Good (model : Model) (e : Entry) : Type 0 where
  pub in_table : row_of e < row_count
  pub code : set_code (row_of e) ≡ e.code
  pub allowed : allowed_for model (row_of e) e.values ≡ true

-- every entry is good, and no later one has its code
abbrev pub GoodEntries : Model → List Entry → Type 0
GoodEntries model [] = Unit {0}
GoodEntries model (e ∷ es) = Good model e × Without e.code es × GoodEntries model es

abbrev pub Unseen : List Bool → List Entry → Type 0
Unseen seen [] = Unit {0}
Unseen seen (e ∷ es) = Free seen (row_of e) × Unseen seen es

-- the values with all entries stored
abbrev pub stored : List Entry → List ℕ → List ℕ
stored [] values = values
stored (e ∷ es) values = stored es (values_with (row_of e) e.values values)

bytes_cons : (e : Entry) (es : List Entry) → bytes_of (e ∷ es) ≡ e.code ∷ length e.values ∷ (e.values ++ bytes_of es)
unfolding bytes_of flatten
bytes_cons e es = refl

pub count_of_lem : {model : Model} {e : Entry} → Good model e → length e.values ≡ byte_count (row_of e)
count_of_lem {model} {e} g = allowed_many model _ e.values g.allowed

-- the front of the bytes, where an entry with its row's count stands there
module _ (e : Entry) (rest : List ℕ) (row : ℕ) (n : length e.values ≡ byte_count row) where
  front_values : values_in row (e.code ∷ length e.values ∷ (e.values ++ rest)) ≡ e.values
  front_values = take_at e.values rest (byte_count row) n

  front_behind : behind row (e.code ∷ length e.values ∷ (e.values ++ rest)) ≡ rest
  front_behind = let s : 2 + byte_count row ≡ suc (suc (byte_count row)) = omega arith in rw s (drop_at e.values rest (byte_count row) n)

module _ (model : Model) where
  other-rows : {d e : Entry} → Good model d → Good model e → (e.code ≡ d.code → ⊥) → row_of e ≡ row_of d → ⊥
  other-rows g h ne same = ne (sym h.code ∙ ap set_code same ∙ g.code)

  still_unseen : {d : Entry} → Good model d → (seen : List Bool) (es : List Entry) → Without d.code es
      → (d.code ≡ set_code tiling_row → Without (set_code kind_row) es) → GoodEntries model es → Unseen seen es → Unseen (seen_with (row_of d) seen) es
  still_unseen g seen [] w k good u = tt
  still_unseen {d} g seen (e ∷ es) (ne, w) k (h, without, good) (free, u) =
      let apart : row_of e ≡ kind_row → tiling_row ≡ row_of d → ⊥ = λ kind same. (k (sym g.code ∙ ap set_code (sym same))).0 (sym h.code ∙ ap set_code kind) in (
        record {
          new = get_or-set_other seen (row_of d) (row_of e) true false (other-rows g h ne) ∙ free.new;
          first = λ kind. get_or-set_other seen (row_of d) tiling_row true false (apart kind) ∙ free.first kind;
        },
        still_unseen g seen es w (λ tiling. (k tiling).1) good u,
      )

  -- a row whose code no entry has keeps its values
  pub kept_by : (row : ℕ) (es : List Entry) (values : List ℕ) → GoodEntries model es → Without (set_code row) es → length values ≡ value_count
      → values_of row (stored es values) ≡ values_of row values
  kept_by row [] values good w full = refl
  kept_by row (e ∷ es) values (g, v, good) (ne, w) full =
      let n = count_of_lem g in
      kept_by row es (values_with (row_of e) e.values values) good w (length_with (row_of e) e.values values n full)
      ∙ other_row (row_of e) e.values values n full row (λ s. ne (sym g.code ∙ ap set_code (sym s)))

  -- An entry is judged by the kind so far as by the kind at last: only a tiling goes by it, and no kind is behind that.
  judged_alike : (profile : Profile) (e : Entry) (es : List Entry) (values : List ℕ) → set_code (row_of e) ≡ e.code → length e.values ≡ byte_count (row_of e)
      → (e.code ≡ set_code tiling_row → Without (set_code kind_row) es) → GoodEntries model es → length values ≡ value_count
      → allowed_for (model_in profile values) (row_of e) e.values ≡ allowed_for (model_in profile (stored (e ∷ es) values)) (row_of e) e.values
  judged_alike profile e es values code n k good full = go (eqb (row_of e) tiling_row) refl
    where
      with_e : List ℕ
      with_e = values_with (row_of e) e.values values

      go : (t : Bool) → eqb (row_of e) tiling_row ≡ t
          → allowed_for (model_in profile values) (row_of e) e.values ≡ allowed_for (model_in profile (stored es with_e)) (row_of e) e.values
      go false other = kind_free (model_in profile values) (model_in profile (stored es with_e)) e.values refl (eqb-false _ _ other)
      go true same =
          let tiling = eqb-true (row_of e) tiling_row same in
          let kept = kept_by kind_row es with_e good (k (sym code ∙ ap set_code tiling)) (length_with (row_of e) e.values values n full) in
          let before = other_row (row_of e) e.values values n full kind_row (λ s. omega arith) in
          ap (λ (l : List ℕ). allowed_for (record { profile = profile; kind = kind_for (get_or l 0 0) }) (row_of e) e.values) (sym (kept ∙ before))

-- Good entries are all taken in a record of a form that has them, where no kind is behind a tiling.
module _ (form : Form) (profile : Profile) where
  has_first : {model : Model} (e : Entry) (es : List Entry) → HasAll form (e ∷ es) → Good model e → has_field form (row_of e) ≡ true
  has_first e es has g = go (has_field form (row_of e)) refl
    where
      go : (t : Bool) → has_field form (row_of e) ≡ t → has_field form (row_of e) ≡ true
      go true t = t
      go false t = absurd ((has (row_of e) g.in_table t).0 (sym g.code))

  pub all_taken : (es : List Entry) (seen : List Bool) (values : List ℕ) → GoodEntries (model_in profile (stored es values)) es → KindFirst es → HasAll form es
      → Unseen seen es → length values ≡ value_count → fields_from form profile seen values (bytes_of es) ≡ Ok (stored es values)
  all_taken [] seen values good first has u full = fields-step form profile seen values (bytes_of []) Step.End (unfold step_at bytes_of flatten in refl)
  all_taken (e ∷ es) seen values (g, without, good) (k, first) has (free, u) full =
      let n = count_of_lem g in
      let left = e.code ∷ length e.values ∷ (e.values ++ bytes_of es) in
      let vs = front_values e (bytes_of es) (row_of e) n in
      let stands_e : Stands true form profile seen values left (row_of e) = record {
        in_table = g.in_table;
        code = sym g.code;
        has = has_first e es has g;
        free = free;
        whole = rw (length-append e.values (bytes_of es)) (omega arith);
        count = n;
        allowed = rw vs (judged_alike _ profile e es values g.code n k good full ∙ g.allowed);
      } in
      ap (fields_from form profile seen values) (bytes_cons e es)
      ∙ fields-step form profile seen values left (Step.Field (row_of e)) (stands_it form profile true stands_e)
      ∙ rw (vs, front_behind e (bytes_of es) (row_of e) n)
      (all_taken es (seen_with (row_of e) seen) (values_with (row_of e) e.values values) good first (λ row h t. (has row h t).1)
      (still_unseen _ g seen es without k good u) (length_with (row_of e) e.values values n full))

-- And where there is no fault they are such.
were_unseen : (d : Entry) (seen : List Bool) (es : List Entry) → row_of d < length seen → Unseen (seen_with (row_of d) seen) es
    → Without d.code es × (d.code ≡ set_code tiling_row → Without (set_code kind_row) es) × Unseen seen es
were_unseen d seen [] h u = (tt, (λ _. tt), tt)
were_unseen d seen (e ∷ es) h (free, u) =
    let (apart, new) = seen_apart (row_of d) seen (row_of e) h free.new in
    let (without, k, u') = were_unseen d seen es h u in
    let of_kind : row_of e ≡ kind_row → (tiling_row ≡ row_of d → ⊥) × (get_or seen tiling_row false ≡ false) =
    λ is-kind. seen_apart (row_of d) seen tiling_row h (free.first is-kind) in (
      ((λ same. apart (unfold row_of in ap (λ c. row_found (field_by c)) same)), without),
      (λ tiling. ((λ kind. (of_kind (row_is e (omega arith) (sym kind))).0 (sym (row_is d (omega arith) (sym tiling)))), k tiling)),
      (record { new = new; first = λ is-kind. (of_kind is-kind).1 }, u'),
    )

module _ (form : Form) (profile : Profile) where
  -- only where no byte is left the fields end
  never_end : (seen : List Bool) (values left : List ℕ) → 0 < length left → step_at form profile seen values left ≡ Step.End → ⊥
  unfolding step_at
  never_end seen values left h e = by_found (field_by (get_or left 0 0)) (rw (ne_eqb (length left) 0 (λ z. omega arith)) at e)
    where
      by_tests : (r : ℕ) (a b : Bool) → cond a Step.Broken (cond b (Step.Field r) (Step.NotAllowed r)) ≡ Step.End → ⊥
      by_tests r true b e = let z : ◌≡◌ {A = ℕ} 0 1 = cc in omega arith
      by_tests r false true e = let z : ◌≡◌ {A = ℕ} 0 1 = cc in omega arith
      by_tests r false false e = let z : ◌≡◌ {A = ℕ} 0 1 = cc in omega arith

      by_found : (f : Option Code) → field_of form profile f seen values left ≡ Step.End → ⊥
      by_found (Some (Code.Set r)) e = by_tests r (misplaced form seen r || misfits r left) (allowed_for (model_in profile values) r (values_in r left)) e
      by_found (Some (Code.Get r)) e = let z : ◌≡◌ {A = ℕ} 0 1 = cc in omega arith
      by_found None e = let z : ◌≡◌ {A = ℕ} 0 1 = cc in omega arith

  pub no_fault : (es : List Entry) (seen : List Bool) (values : List ℕ) → length seen ≡ row_count → length values ≡ value_count
      → IsOk (fields_from form profile seen values (bytes_of es))
      → GoodEntries (model_in profile (stored es values)) es × KindFirst es × HasAll form es × Unseen seen es
  no_fault [] seen values n full e = (tt, tt, (λ row h t. tt), tt)
  no_fault (e ∷ es) seen values n full sound = go (step_at form profile seen values left) refl
      (λ row m r. no_fault es (seen_with row seen) (values_with row e.values values) (length-set seen row true ∙ n) (length_with row e.values values m full) r)
      (ap (λ (b : List ℕ). is_ok (fields_from form profile seen values b)) (sym (bytes_cons e es)) ∙ sound)
    where
      left : List ℕ
      left = e.code ∷ length e.values ∷ (e.values ++ bytes_of es)

      go : (s : Step) → step_at form profile seen values left ≡ s
          → ((row : ℕ) → length e.values ≡ byte_count row
          → IsOk (fields_from form profile (seen_with row seen) (values_with row e.values values) (bytes_of es))
          → GoodEntries (model_in profile (stored es (values_with row e.values values))) es × KindFirst es × HasAll form es × Unseen (seen_with row seen) es)
          → IsOk (fields_from form profile seen values left)
          → GoodEntries (model_in profile (stored (e ∷ es) values)) (e ∷ es) × KindFirst (e ∷ es) × HasAll form (e ∷ es) × Unseen seen (e ∷ es)
      go (Step.Field row) st ih sound =
          let t = stands form profile true seen values left row st in
          let vs = front_values e (bytes_of es) row t.count in
          let is_row = row_is e t.in_table (sym t.code) in
          let next = fields-step form profile seen values left (Step.Field row) st
          ∙ ap₂ (λ (v b : List ℕ). fields_from form profile (seen_with row seen) (values_with row v values) b) vs (front_behind e (bytes_of es) row t.count) in
          let (good, first, has, u) = rw (← is_row) at (ih row t.count (ap is_ok (sym next) ∙ sound)) in
          let (without, k, u') = were_unseen e seen es (rw (is_row, n) t.in_table) u in
          let code : set_code (row_of e) ≡ e.code = rw is_row (sym t.code) in
          let so_far : allowed_for (model_in profile values) (row_of e) e.values ≡ true = rw is_row (rw vs at t.allowed) in
          let alike = judged_alike _ profile e es values code (rw is_row t.count) k good full in (
            (record { in_table = rw is_row t.in_table; code = code; allowed = sym alike ∙ so_far }, without, good),
            (k, first),
            (λ r h none. ((λ c. false≢true (sym none ∙ ap (has_field form) (sym (row_is e h (sym c)) ∙ is_row) ∙ t.has)), has r h none)),
            (rw is_row t.free, u'),
          )
      go (Step.NotAllowed row) st ih sound = absurd (false≢true (sym (ap is_ok (fields-step form profile seen values left (Step.NotAllowed row) st)) ∙ sound))
      go Step.Broken st ih sound = absurd (false≢true (sym (ap is_ok (fields-step form profile seen values left Step.Broken st)) ∙ sound))
      go Step.End st ih sound = absurd (never_end seen values left (omega arith) st)
