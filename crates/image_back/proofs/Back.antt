-- Reading what was written gives that table. Assumes nothing.
use mathlib.Core.Path.{◌≡◌, refl, sym, ap, ap₂, ◌∙◌}
use mathlib.Core.Bool.{Bool, true, false, cond, false≢true}
use mathlib.Core.List.{List, [], ◌∷◌, ◌++◌, flatten, append-nil}
use mathlib.Core.Logic.{⊎_elim}
use Prim.Native.Nat.{ℕ, zero, suc, ◌+◌, ◌≤◌, ◌<◌}
use native.Mathlib.Nat.{add-zero, eq-or-lt_of_le}
use native.Mathlib.Omega.{arith}
use borrow.Author.Tests.{eq-eqb, ne_eqb}
use lib.ListN.{length, get_or, take, length-map}
use lib.Seq.{append_snoc, take_at}
use Rattle.std.specs.Prelude.{None, Result, Ok}
use Rattle.models.specs.declared.Model.{Model}
use Rattle.settings.specs.Settings.{set_code, fresh_values, values_of, row_count, value_count, kind_row}
use Rattle.lists.specs.Lists.{each, laid_over}
use Rattle.packet.specs.declared.MonitorId.{MonitorId}
use Rattle.panels.specs.declared.Panel.{Panel}
use Rattle.panels.specs.Wall.{Wall, model_of, blank, place_from, most_panels}
use Rattle.panels.specs.WellFormed.{GoodPanel, Absent, GoodWall}
use Rattle.panels.proofs.Formed.{absent_snoc, good_at}
use Rattle.refusals.specs.declared.Refusal.{Refusal}
use Rattle.image_forms.specs.declared.Form.{Form}
use Rattle.image_forms.specs.Forms.{has_field, keeps}
use Rattle.image_forms.proofs.Laws.{kept_profile, kept_fresh}
use Rattle.image_write.specs.Written.{field, field_in, fields_of, record_of, records_of, setup_of, size_of, loses_nothing, written_of, output_of}
use Rattle.image_read.specs.Fields.{fields_in}
use Rattle.image_read.specs.Read.{panel_in, read_records, read_of}
use Rattle.image_record.specs.Head.{id_in}
use Rattle.image_read.specs.Entries.{Entry, bytes_of, Without, HasAll, KindFirst, given_or, given}
use Rattle.image_read.proofs.OnTheWay.{entry_of}
use Rattle.lists.proofs.Each.{each_alike}
use Rattle.panels.proofs.Values.{length-values}
use Rattle.image_write.proofs.Lengths.{record_at, record_length, record_some, records_long, image-length, products}
use Rattle.image_write.proofs.Losing.{first_held, is_written, was_written}
use Rattle.image_read.proofs.Entries.{row_is, Good, GoodEntries}
use Rattle.image_read.proofs.Order.{codes_apart, without_gives, given_read}
use Rattle.image_read.proofs.Said.{said_panel, panel-said}
use Rattle.image_back.proofs.Split.{form_back, whole-sound, records_in_lem}

-- the entries of a panel's n rows from k on, of those that the form has a field for
module _ (form : Form) (values : List ℕ) where
  abbrev entries_from : ℕ → ℕ → List Entry
  entries_from k zero = []
  entries_from k (suc n) = cond (has_field form k) (entry_of k values ∷ entries_from (suc k) n) (entries_from (suc k) n)

  bytes_from : length values ≡ value_count → (k n : ℕ) → flatten (each (λ j. field_in form values (k + j)) n) ≡ bytes_of (entries_from k n)
  unfolding bytes_of flatten
  bytes_from full k zero = refl
  bytes_from full k (suc n) =
      let more = each_alike (λ j. field_in form values (k + suc j)) (λ j. field_in form values (suc k + j)) n
      (λ j h. let e : k + suc j ≡ suc k + j = omega arith in ap (field_in form values) e) in
      rw (add-zero k, more) (go (has_field form k) (bytes_from full (suc k) n))
    where
      go : (t : Bool) → flatten (each (λ j. field_in form values (suc k + j)) n) ≡ bytes_of (entries_from (suc k) n)
          → cond t (field k (values_of k values)) [] ++ flatten (each (λ j. field_in form values (suc k + j)) n)
          ≡ bytes_of (cond t (entry_of k values ∷ entries_from (suc k) n) (entries_from (suc k) n))
      go true ih = ap₂ (λ (m : ℕ) (l : List ℕ). set_code k ∷ m ∷ (values_of k values ++ l)) (sym (length-values k values full)) ih
      go false ih = ih

  -- none has the code of a row that is before them or that the form has no field for
  without-row : (row k n : ℕ) → row < row_count → k + n ≤ row_count → ((j : ℕ) → k ≤ j → has_field form j ≡ true → j ≡ row → ⊥)
      → Without (set_code row) (entries_from k n)
  without-row row k zero h few ne = tt
  without-row row k (suc n) h few ne = go (has_field form k) refl (without-row row (suc k) n h (omega arith) (λ j l. ne j (omega arith)))
    where
      go : (t : Bool) → has_field form k ≡ t → Without (set_code row) (entries_from (suc k) n)
          → Without (set_code row) (cond t (entry_of k values ∷ entries_from (suc k) n) (entries_from (suc k) n))
      go true has rest = ((λ c. ne k (omega arith) has (codes_apart (omega arith) h c)), rest)
      go false none rest = rest

  good-from : (model : Model) → ((row : ℕ) → row < row_count → Good model (entry_of row values)) → (k n : ℕ) → k + n ≤ row_count
      → GoodEntries model (entries_from k n) × KindFirst (entries_from k n)
  good-from model good k zero few = (tt, tt)
  good-from model good k (suc n) few = go (has_field form k) (good-from model good (suc k) n (omega arith))
    where
      go : (t : Bool) → GoodEntries model (entries_from (suc k) n) × KindFirst (entries_from (suc k) n)
          → let es = cond t (entry_of k values ∷ entries_from (suc k) n) (entries_from (suc k) n) in GoodEntries model es × KindFirst es
      go true (rest, first) = (
        (good k (omega arith), without-row k (suc k) n (omega arith) (omega arith) (λ j l has same. omega arith), rest),
        ((λ tiling. without-row kind_row (suc k) n (omega arith) (omega arith) (λ j l has same. omega arith)), first),
      )
      go false rest = rest

  has_all : HasAll form (entries_from 0 row_count)
  has_all row h none = without-row row 0 row_count h (omega arith) (λ j l has same. false≢true (sym none ∙ ap (has_field form) (sym same) ∙ has))

  -- and a row is given its own values
  gives_from : (fresh : List ℕ) (row k n : ℕ) → k ≤ row → row < k + n → k + n ≤ row_count → has_field form row ≡ true
      → given_or fresh row (entries_from k n) ≡ values_of row values
  gives_from fresh row k zero l h few has = absurd (omega arith)
  gives_from fresh row k (suc n) l h few has =
      ⊎_elim here (λ less. later (has_field form k) less (gives_from fresh row (suc k) n less (omega arith) (omega arith) has)) (eq-or-lt_of_le l)
    where
      here : k ≡ row → given_or fresh row (entries_from k (suc n)) ≡ values_of row values
      here same = rw (same, has, eq-eqb (set_code row) (set_code row) refl)

      later : (t : Bool) → k < row → given_or fresh row (entries_from (suc k) n) ≡ values_of row values
          → given_or fresh row (cond t (entry_of k values ∷ entries_from (suc k) n) (entries_from (suc k) n)) ≡ values_of row values
      later true less ih = rw (ne_eqb (set_code k) (set_code row) (λ c. let same : k ≡ row = codes_apart (omega arith) (omega arith) c in omega arith)) ih
      later false less ih = ih

-- where an ID is absent nothing is found
absent_nowhere : (i : MonitorId) (k : ℕ) (w : Wall) → Absent i w → place_from i k w ≡ None
unfolding place_from
absent_nowhere i k [] a = refl
absent_nowhere i k (p ∷ w) (n, a) = rw (ne_eqb p.id.0 i.0 n) (absent_nowhere i (suc k) w a)

-- a good panel that a form keeps: its entries are good, and give each row its values
module _ (p : Panel) (good : GoodPanel p) (form : Form) (kept : keeps form p.profile p.values ≡ true) where
  own_good : (row : ℕ) → row < row_count → Good (model_of p) (entry_of row p.values)
  own_good row h = let e = row_is (entry_of row p.values) h refl in record { in_table = rw e h; code = ap set_code e; allowed = rw e (good.in_range row h) }

  own_given : (row : ℕ) → row < row_count → given p.profile row (entries_from form p.values 0 row_count) ≡ values_of row p.values
  own_given row h = go (has_field form row) refl
    where
      go : (t : Bool) → has_field form row ≡ t → given p.profile row (entries_from form p.values 0 row_count) ≡ values_of row p.values
      go true has = gives_from form p.values (values_of row (fresh_values p.profile)) row 0 row_count (omega arith) (omega arith) (omega arith) has
      go false none =
          without_gives (values_of row (fresh_values p.profile)) row (entries_from form p.values 0 row_count) (has_all form p.values row h none)
          ∙ sym (kept_fresh p.profile p.values form kept row none)

  fields_back : fields_in form p.profile (flatten (fields_of form p.values)) ≡ Ok p.values
  unfolding fields_of
  fields_back =
      let (own, first) = good-from form p.values (model_of p) own_good 0 row_count (omega arith) in
      ap (fields_in form p.profile) (bytes_from form p.values good.full 0 row_count)
      ∙ given_read p.profile form (entries_from form p.values 0 row_count) p.values own first (has_all form p.values) good.full own_given

  -- and so its record
  panel_back : (w : Wall) → Absent p.id w → panel_in form (id_in w) (record_of form p) ≡ Ok p
  unfolding record_of said_panel
  panel_back w a =
      panel-said form p.id.0 p.group.0 p.profile (flatten (fields_of form p.values)) (kept_profile p.profile p.values form kept) w
      ∙ ap (said_panel w p.id.0 p.group.0 p.profile) fields_back
      ∙ rw (ne_eqb p.id.0 0 good.named, ne_eqb p.group.0 0 good.grouped, absent_nowhere p.id 0 w a)

-- no panel of the one wall has the ID of a panel of the other
abbrev Apart : Wall → Wall → Type 0
Apart w [] = Unit {0}
Apart w (p ∷ v) = Absent p.id w × Apart w v

apart_snoc : (w v : Wall) (p : Panel) → Apart w v → Absent p.id v → Apart (w ++ p ∷ []) v
apart_snoc w [] p a b = tt
apart_snoc w (q ∷ v) p (a, apart) (n, b) = (absent_snoc q.id w p a (λ e. n (sym e)), apart_snoc w v p apart b)

module _ (form : Form) where
  records_back : (w v : Wall) → GoodWall v → loses_nothing form v ≡ true → Apart w v
      → read_records form w (records_of form v) ≡ Ok (w ++ v)
  unfolding read_records
  records_back w [] good held a = ap {B = Result Wall Refusal} (λ (u : Wall). Ok u) (sym (append-nil w))
  records_back w (p ∷ v) (g, b, good) held (a, apart) =
      let (here, rest) = first_held form p v held in
      rw (panel_back p g form here w a)
      (records_back (w ++ p ∷ []) v good rest (apart_snoc w v p apart b) ∙ ap {B = Result Wall Refusal} (λ (u : Wall). Ok u) (append_snoc w p v))

  -- The image of a good wall that the form holds is sound and reads as that wall.
  module _ (w : Wall) (good : GoodWall w) (few : length w ≤ most_panels) (held : loses_nothing form w ≡ true) where
    not_empty : (k : ℕ) → k < length (records_of form w) → 0 < length (get_or (records_of form w) k [])
    not_empty k h =
        let h' : k < length w = omega (arith, length-map w (record_of form)) in
        rw (record_at form w k h') (omega (arith, record_length form (get_or w k blank) (good_at w good k h').full, record_some form))

    pub reads_back : read_of (setup_of form w) ≡ Ok w
    unfolding read_of
    reads_back =
        let records = records_of form w in
        let n : length records ≤ most_panels = omega (arith, length-map w (record_of form)) in
        rw (whole-sound form records not_empty n, records_in_lem form records not_empty n, form_back form records) (records_back [] w good held (apart_none w))
      where
        apart_none : (v : Wall) → Apart [] v
        apart_none [] = tt
        apart_none (p ∷ v) = (tt, apart_none v)

  -- The image has as many bytes as it should, and stands at the front of the output.
  pub image_size : (w : Wall) → GoodWall w → length (setup_of form w) ≡ size_of form w
  image_size w good =
      image-length form (records_of form w) ∙ rw (records_long form w good, length-map w (record_of form)) (omega (arith, (products form 0 (length w)).0))

  pub front_is_image : (w : Wall) → GoodWall w → (out : List ℕ) (n : ℕ) → written_of form w out ≡ Ok n → take n (output_of form w out) ≡ setup_of form w
  unfolding laid_over
  front_is_image w good out n e =
      let (held, room, size) = was_written form w out n e in
      rw (size, (is_written form w out held room).1) (take_at (setup_of form w) _ (size_of form w) (image_size w good))

  -- Reading what was written of a table gives that table.
  pub written_back : (w : Wall) → GoodWall w → length w ≤ most_panels → (out : List ℕ) (n : ℕ) → written_of form w out ≡ Ok n
      → read_of (take n (output_of form w out)) ≡ Ok w
  written_back w good few out n e =
      ap read_of (front_is_image w good out n e) ∙ reads_back w good few (was_written form w out n e).0
