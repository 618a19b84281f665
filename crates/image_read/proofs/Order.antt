-- Fields go by code and not by place. Assumes nothing.
use mathlib.Core.Path.{◌≡◌, refl, sym, ap, ◌∙◌}
use mathlib.Core.Bool.{Bool, true, false, cond, false≢true}
use mathlib.Core.List.{List, [], ◌∷◌, ◌++◌, Forall₂}
use Prim.Native.Nat.{ℕ, ◌<◌}
use native.Mathlib.Omega.{arith}
use borrow.Author.Tests.{ne_eqb, eqb-true}
use lib.Dec.{eqb}
use lib.ListN.{length, replicate}
use Rattle.std.specs.Prelude.{Result, Ok, Err, is_ok, IsOk}
use Rattle.settings.specs.declared.Profile.{Profile}
use Rattle.models.specs.declared.Model.{Model}
use Rattle.std.proofs.Common.{Some}
use Rattle.codes.specs.declared.Code.{Code}
use Rattle.settings.specs.Settings.{set_code, fresh_values, values_of, row_count, value_count, kind_row, tiling_row}
use Rattle.codes.specs.Found.{field_by}
use Rattle.models.specs.Models.{model_in}
use Rattle.settings.proofs.Laws.{fresh-count}
use Rattle.codes.proofs.Laws.{field_found}
use Rattle.models.proofs.Laws.{fresh-allowed}
use Rattle.panels.specs.Wall.{Wall}
use Rattle.panels.specs.declared.Panel.{Panel}
use Rattle.image_forms.specs.declared.Form.{Form}
use Rattle.image_forms.specs.Forms.{has_field}
use Rattle.refusals.specs.declared.Refusal.{Refusal}
use Rattle.image_frame.specs.Frame.{form_of, frame_of, records_in}
use Rattle.image_frame.proofs.Edges.{frame_same}
use Rattle.image_read.specs.Fields.{fields_in}
use Rattle.refusals.specs.Refusals.{if_sound}
use Rattle.image_read.specs.Read.{panel_in, read_records, read_of}
use Rattle.image_record.specs.Head.{id_in}
use Rattle.image_read.specs.Entries.{Entry, bytes_of, fresh_entry, Permuted, same, swapped, kept, twice, Without, HasAll, KindFirst, Reordered, given_or, given, GiveAlike, SameHead}
use Rattle.image_record.proofs.Steps.{none_seen}
use Rattle.image_read.proofs.Entries.{row_of, row_is, Good, GoodEntries, Unseen, stored, all_taken, no_fault}
use Rattle.image_read.proofs.Said.{said_panel, panel-said, fields-sound}
use Rattle.image_read.proofs.ByCode.{by_code, stored-full, stored_is}

-- No field has a code in another order either.
without_permuted : {es fs : List Entry} → Permuted es fs → (c : ℕ) → Without c es → Without c fs
without_permuted same c w = w
without_permuted swapped c (n, (m, w)) = (m, (n, w))
without_permuted (kept p) c (n, w) = (n, without_permuted p c w)
without_permuted (twice p q) c w = without_permuted q c (without_permuted p c w)

-- Set codes tell rows apart.
pub codes_apart : {j k : ℕ} → j < row_count → k < row_count → set_code j ≡ set_code k → j ≡ k
codes_apart hj hk e = let s : Some (Code.Set _) ≡ Some (Code.Set _) = sym (field_found hj) ∙ ap field_by e ∙ field_found hk in cc

pub without_gives : (fresh : List ℕ) (row : ℕ) (es : List Entry) → Without (set_code row) es → given_or fresh row es ≡ fresh
without_gives fresh row [] w = refl
without_gives fresh row (e ∷ es) (ne, w) = rw (ne_eqb _ _ ne) (without_gives fresh row es w)

module _ (model : Model) where
  -- The same fields in another order are good too, and give each row the same.
  good_permuted : {es fs : List Entry} → Permuted es fs → GoodEntries model es → GoodEntries model fs
  good_permuted same good = good
  good_permuted swapped (g, (n, w), (h, v, good)) = (h, ((λ e. n (sym e)), v), (g, w, good))
  good_permuted (kept p) (g, w, good) = (g, without_permuted p _ w, good_permuted p good)
  good_permuted (twice p q) good = good_permuted q (good_permuted p good)

  permuted_given : {es fs : List Entry} → Permuted es fs → GoodEntries model es → (fresh : List ℕ) (row : ℕ) → given_or fresh row fs ≡ given_or fresh row es
  permuted_given same good fresh row = refl
  permuted_given (swapped {d} {e} {es}) (g, (n, w), rest) fresh row = go (eqb d.code (set_code row)) (eqb e.code (set_code row)) refl refl
    where
      go : (a b : Bool) → eqb d.code (set_code row) ≡ a → eqb e.code (set_code row) ≡ b
          → cond b e.values (cond a d.values (given_or fresh row es)) ≡ cond a d.values (cond b e.values (given_or fresh row es))
      go true true ea eb = absurd (n (eqb-true _ _ eb ∙ sym (eqb-true _ _ ea)))
      go true false ea eb = refl
      go false true ea eb = refl
      go false false ea eb = refl
  permuted_given (kept {e} p) (g, w, good) fresh row = ap (cond (eqb e.code (set_code row)) e.values) (permuted_given p good fresh row)
  permuted_given (twice p q) good fresh row = permuted_given q (good_permuted p good) fresh row ∙ permuted_given p good fresh row

  unseen : (es : List Entry) → GoodEntries model es → Unseen (replicate row_count false) es
  unseen [] good = tt
  unseen (e ∷ es) (g, w, good) = (record { new = none_seen row_count (row_of e); first = λ kind. none_seen row_count tiling_row }, unseen es good)

module _ (profile : Profile) where
  -- Fields that are read without a fault: good for the panel that they make, and such that a record of the form can have them.
  abbrev Readable : Form → List Entry → Type 0
  Readable form es = GoodEntries (model_in profile (stored es (fresh_values profile))) es × KindFirst es × HasAll form es

  good_read : (form : Form) (es : List Entry) → Readable form es
      → fields_in form profile (bytes_of es) ≡ Ok (stored es (fresh_values profile))
  good_read form es (good, first, has) = all_taken form profile es (replicate row_count false) (fresh_values profile) good first has (unseen _ es good) (fresh-count profile)

  read_good : (form : Form) (es : List Entry) → IsOk (fields_in form profile (bytes_of es)) → Readable form es
  read_good form es sound =
      let (good, first, has, u) = no_fault form profile es (replicate row_count false) (fresh_values profile) refl (fresh-count profile) sound in
      (good, first, has)

  -- Good fields read as what they give each row, and as the same values where they give the same.
  pub given_read : (form : Form) (es : List Entry) (values : List ℕ) → GoodEntries (model_in profile values) es → KindFirst es → HasAll form es
      → length values ≡ value_count → ((row : ℕ) → row < row_count → given profile row es ≡ values_of row values)
      → fields_in form profile (bytes_of es) ≡ Ok values
  given_read form es values good first has full rows =
      let same = stored_is (model_in profile values) profile es values good full rows in
      rw same at (good_read form es (rw same good, first, has))

  stored_alike : (m n : Model) (es fs : List Entry) → GoodEntries m es → GoodEntries n fs
      → ((row : ℕ) → row < row_count → given profile row fs ≡ given profile row es) → stored fs (fresh_values profile) ≡ stored es (fresh_values profile)
  stored_alike m n es fs good also rows =
      let full = fresh-count profile in
      stored_is n profile fs (stored es (fresh_values profile)) also (stored-full m es (fresh_values profile) good full)
      (λ row h. rows row h ∙ sym (by_code m es (fresh_values profile) good full h))

  given_alike : (f g : Form) (es fs : List Entry) → Readable f es → Readable g fs → ((row : ℕ) → row < row_count → given profile row fs ≡ given profile row es)
      → fields_in g profile (bytes_of fs) ≡ fields_in f profile (bytes_of es)
  given_alike f g es fs good also rows =
      good_read g fs also
      ∙ ap {B = Result (List ℕ) Refusal} (λ (v : List ℕ). Ok v) (stored_alike _ _ es fs good.0 also.0 rows)
      ∙ sym (good_read f es good)

  -- Fields that are good for the panel that others make, and give each row the same, make that panel.
  alike_read : (f g : Form) (es fs : List Entry) → Readable f es → GoodEntries (model_in profile (stored es (fresh_values profile))) fs → KindFirst fs → HasAll g fs
      → ((row : ℕ) → row < row_count → given profile row fs ≡ given profile row es) → fields_in g profile (bytes_of fs) ≡ fields_in f profile (bytes_of es)
  alike_read f g es fs good also first has rows =
      given_alike f g es fs good (rw (stored_alike _ _ es fs good.0 also rows) also, first, has) rows

  any_order : (f g : Form) (es fs : List Entry) → Reordered g profile es fs → IsOk (fields_in f profile (bytes_of es))
      → fields_in g profile (bytes_of fs) ≡ fields_in f profile (bytes_of es)
  any_order f g es fs (p, first, has) sound =
      let good = read_good f es sound in
      alike_read f g es fs good (good_permuted _ p good.0) first has (λ row h. permuted_given _ p good.0 _ row)

  by_given : (f g : Form) (es fs : List Entry) → GiveAlike g profile es fs → IsOk (fields_in f profile (bytes_of es))
      → fields_in g profile (bytes_of fs) ≡ fields_in f profile (bytes_of es)
  by_given f g es fs a sound = given_alike f g es fs (read_good f es sound) (read_good g fs a.sound) a.rows

  -- Fields without a code give its row the fresh values, and so does a field that has these.
  fresh_gives : (row : ℕ) (es : List Entry) → row < row_count → Without (set_code row) es → (r : ℕ) → r < row_count
      → given profile r (fresh_entry profile row ∷ es) ≡ given profile r es
  fresh_gives row es h w r k = go (eqb (set_code row) (set_code r)) refl
    where
      go : (t : Bool) → eqb (set_code row) (set_code r) ≡ t → cond t (values_of row (fresh_values profile)) (given profile r es) ≡ given profile r es
      go true e = let s = codes_apart h k (eqb-true _ _ e) in rw (← s) (sym (without_gives _ row es w))
      go false e = refl

  pub left_out : (form : Form) (row : ℕ) (es : List Entry) → row < row_count → has_field form row ≡ true → Without (set_code row) es
      → (row ≡ tiling_row → Without (set_code kind_row) es) → IsOk (fields_in form profile (bytes_of es))
      → fields_in form profile (bytes_of (fresh_entry profile row ∷ es)) ≡ fields_in form profile (bytes_of es)
  left_out form row es h field w k sound =
      let (good, first, has) = read_good form es sound in
      let model = model_in profile (stored es (fresh_values profile)) in
      let r = row_is (fresh_entry profile row) h refl in
      let g : Good model (fresh_entry profile row) = record { in_table = rw r h; code = ap set_code r; allowed = rw r (fresh-allowed model h) } in
      alike_read form form es (fresh_entry profile row ∷ es) (good, first, has) (g, w, good) ((λ e. k (codes_apart h (omega arith) e)), first)
      (λ j l none. ((λ e. false≢true (sym none ∙ ap (has_field form) (sym (codes_apart h l e)) ∙ field)), has j l none)) (fresh_gives row es h w)

-- Images, sound as a whole and each of its form, whose records have the same heads and fields that read alike read as the same
-- wall, where there is no fault.
module _ (P : Form → Profile → List Entry → List Entry → Type 0)
    (read_alike : (profile : Profile) (f g : Form) (es fs : List Entry) → P g profile es fs → IsOk (fields_in f profile (bytes_of es))
    → fields_in g profile (bytes_of fs) ≡ fields_in f profile (bytes_of es)) where
  panel_same : (f g : Form) (w : Wall) (a b : List ℕ) → SameHead P f g a b → IsOk (panel_in f (id_in w) a) → panel_in g (id_in w) b ≡ panel_in f (id_in w) a
  panel_same f g w a b (id, group, profile, these, those, (held, first), (also, second), fields) e =
      let one = ap (panel_in f (id_in w)) first ∙ panel-said f id group profile (bytes_of these) held w in
      let sound = fields-sound w id group profile (fields_in f profile (bytes_of these)) (ap is_ok (sym one) ∙ e) in
      ap (panel_in g (id_in w)) second ∙ panel-said g id group profile (bytes_of those) also w
      ∙ ap (said_panel w id group profile) (read_alike profile f g these those fields sound) ∙ sym one

  records-same : (f g : Form) (w : Wall) (xs ys : List (List ℕ)) → Forall₂ (SameHead P f g) xs ys → IsOk (read_records f w xs)
      → read_records g w ys ≡ read_records f w xs
  unfolding read_records
  records-same f g w [] [] Forall₂.nil sound = refl
  records-same f g w [] (y ∷ ys) r sound = elim r [ ]
  records-same f g w (x ∷ xs) [] r sound = elim r [ ]
  records-same f g w (x ∷ xs) (y ∷ ys) (Forall₂.cons r rest) sound =
      go (panel_in f (id_in w) x) (panel_same f g w x y r) sound (λ p. records-same f g (w ++ p ∷ []) xs ys rest)
    where
      go : (p : Result Panel Refusal) → (IsOk p → panel_in g (id_in w) y ≡ p) → IsOk (if_sound p (λ p. read_records f (w ++ p ∷ []) xs))
          → ((p : Panel) → IsOk (read_records f (w ++ p ∷ []) xs) → read_records g (w ++ p ∷ []) ys ≡ read_records f (w ++ p ∷ []) xs)
          → if_sound (panel_in g (id_in w) y) (λ p. read_records g (w ++ p ∷ []) ys) ≡ if_sound p (λ p. read_records f (w ++ p ∷ []) xs)
      go (Ok p) like sound ih = rw (like refl) (ih p sound)
      go (Err r) like sound ih = absurd (false≢true sound)

  read_same : (image other : List ℕ) → IsOk (frame_of other) → Forall₂ (SameHead P (form_of image) (form_of other)) (records_in image) (records_in other)
      → IsOk (read_of image) → read_of other ≡ read_of image
  unfolding read_of
  read_same image other fit r sound =
      go (frame_of image) (frame_of other) (λ i e. frame_same image e) (λ o e. frame_same other e) fit sound
    where
      go : (a b : Result (List ℕ) Refusal) → ((i : List ℕ) → a ≡ Ok i → image ≡ i) → ((o : List ℕ) → b ≡ Ok o → other ≡ o) → IsOk b
          → IsOk (if_sound a (λ i. read_records (form_of i) [] (records_in i)))
          → if_sound b (λ o. read_records (form_of o) [] (records_in o)) ≡ if_sound a (λ i. read_records (form_of i) [] (records_in i))
      go (Ok i) (Ok o) one other_one fit sound =
          let s = one i refl in
          let t = other_one o refl in
          rw (← s, ← t) (records-same (form_of image) (form_of other) [] (records_in image) (records_in other) r (rw s sound))
      go (Ok i) (Err d) one other_one fit sound = absurd (false≢true fit)
      go (Err d) b one other_one fit sound = absurd (false≢true sound)

pub read_any_order : (image other : List ℕ) → IsOk (frame_of other)
    → Forall₂ (SameHead Reordered (form_of image) (form_of other)) (records_in image) (records_in other)
    → IsOk (read_of image) → read_of other ≡ read_of image
read_any_order = read_same Reordered any_order

pub read_by_code : (image other : List ℕ) → IsOk (frame_of other)
    → Forall₂ (SameHead GiveAlike (form_of image) (form_of other)) (records_in image) (records_in other)
    → IsOk (read_of image) → read_of other ≡ read_of image
read_by_code = read_same GiveAlike by_given
