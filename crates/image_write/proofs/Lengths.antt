-- How long a record and its parts are. Assumes nothing.
use mathlib.Core.Path.{◌≡◌, refl, sym, ap, ◌∙◌}
use mathlib.Core.Bool.{true, cond}
use mathlib.Core.List.{List, [], flatten}
use Prim.Native.Nat.{ℕ, zero, suc, ◌+◌, ◌*◌, ◌≤◌, ◌<◌}
use native.Mathlib.Omega.{arith}
use lib.ListN.{length, get_or, take, replicate, length-append, length-map, length-replicate}
use lib.Seq.{take_all}
use Rattle.std.proofs.lemmas.List.{get_or-map}
use Rattle.panels.proofs.Values.{length-values}
use Rattle.settings.specs.Settings.{settings, byte_count, value_count, row_count, values_of}
use Rattle.image_forms.specs.declared.Form.{Form}
use Rattle.image_forms.specs.Forms.{head_size, head_of, has_field}
use Rattle.image_forms.proofs.Laws.{head-length, head_some}
use Rattle.lists.specs.Lists.{start_of, each}
use Rattle.lists.proofs.Each.{in_each, length-each, each_alike}
use Rattle.panels.specs.declared.Panel.{Panel}
use Rattle.panels.specs.Wall.{Wall, blank}
use Rattle.panels.specs.WellFormed.{GoodWall}
use Rattle.panels.proofs.Formed.{good_at}
use Rattle.image_write.specs.Written.{field, field_in, fields_of, record_of, records_of, high_low, starts_of, image_of, record_size}
use Rattle.image_write.specs.Private.Sizes.{fields_size}
use Rattle.lists.proofs.Flat.{alike_long}
use Rattle.std.proofs.lemmas.Grind.{common_steps}

-- lists as long as others, one behind the other
as_long : (f g : ℕ → List ℕ) (n : ℕ) → ((k : ℕ) → k < n → length (f k) ≡ length (g k)) → length (flatten (each f n)) ≡ length (flatten (each g n))
unfolding flatten
as_long f g zero h = refl
as_long f g (suc n) h = grind (arith, common_steps, as_long (λ k. f (suc k)) (λ k. g (suc k)) n (λ k l. h (suc k) (omega arith)), length-append)

-- how many bytes a form has for a row's field
abbrev pub field_bytes : Form → ℕ → ℕ
field_bytes form row = cond (has_field form row) (2 + byte_count row) 0

bytes_of_all : (form : Form) → length {A = ℕ} (flatten (each (λ row. replicate (field_bytes form row) 0) row_count)) ≡ fields_size form
unfolding settings flatten
bytes_of_all Form.One = refl
bytes_of_all Form.Two = refl

-- all fields of a panel
module _ (form : Form) (values : List ℕ) where
  pub field_at : {row : ℕ} → row < row_count → get_or (fields_of form values) row [] ≡ field_in form values row
  unfolding fields_of
  field_at h = in_each (field_in form values) row_count [] h

  pub fields-count : length (fields_of form values) ≡ row_count
  unfolding fields_of
  fields-count = refl

  pub fields_all : take row_count (fields_of form values) ≡ fields_of form values
  fields_all = take_all row_count (fields_of form values) (omega (arith, fields-count))

  pub field-length : length values ≡ value_count → (row : ℕ) → length (field_in form values row) ≡ field_bytes form row
  field-length full row = grind (arith, common_steps, has_field, field, values_of, byte_count, length-values)

  pub field_has : length values ≡ value_count → (row : ℕ) → has_field form row ≡ true → length (field_in form values row) ≡ 2 + byte_count row
  field_has full row has = grind (arith, common_steps, field-length, byte_count)

  pub fields-length : length values ≡ value_count → length (flatten (fields_of form values)) ≡ fields_size form
  unfolding fields_of
  fields-length full =
      as_long (field_in form values) (λ row. replicate (field_bytes form row) 0) row_count (λ row h. field-length full row ∙ sym (length-replicate _ 0))
      ∙ bytes_of_all form

-- n starts of two bytes
pub pairs_before : (f : ℕ → ℕ) (n k : ℕ) → k ≤ n → length (flatten (take k (each (λ j. high_low (f j)) n))) ≡ 2 * k
pairs_before f n k h = grind (arith, common_steps, high_low, length-each, alike_long, in_each)

-- an image made of records
pub starts_count : (records : List (List ℕ)) → length (flatten (starts_of records)) ≡ 2 * length records
unfolding starts_of flatten
starts_count records =
    let all = take_all (length records) (starts_of records) (omega (arith, length-each (λ k. high_low (start_of records k)) (length records))) in
    ap (λ (ls : List (List ℕ)). length (flatten ls)) (sym all) ∙ pairs_before (λ k. start_of records k) (length records) (length records) (omega arith)

-- a record is its head and its fields
pub record_parts : (form : Form) → record_size form ≡ head_size form + fields_size form
unfolding settings
record_parts Form.One = refl
record_parts Form.Two = refl

module _ (form : Form) where
  pub image-length : (records : List (List ℕ)) → length (image_of form records) ≡ length (flatten records) + 2 * length records + 2
  unfolding image_of
  image-length records = grind (arith, common_steps, length-append, starts_count)

  -- a record has as many bytes as its form says
  pub record_length : (p : Panel) → length p.values ≡ value_count → length (record_of form p) ≡ record_size form
  unfolding record_of
  record_length p full = grind (arith, common_steps, head_of, length-append, head-length, fields-length, record_parts)

  pub record_some : 0 < record_size form
  record_some = omega (arith, record_parts form, head_some form)

  -- so that each record of a wall starts that much behind the one before it
  pub record_at : (w : Wall) (k : ℕ) → k < length w → get_or (records_of form w) k [] ≡ record_of form (get_or w k blank)
  record_at w k h = get_or-map (record_of form) w k blank [] h

  pub records-before : (w : Wall) → GoodWall w → (k : ℕ) → k ≤ length w → length (flatten (take k (records_of form w))) ≡ record_size form * k
  records-before w good k h = grind (arith, common_steps, length-map, alike_long, record_size, records_of, record_at, record_length, blank, good_at)

  pub records_long : (w : Wall) → GoodWall w → length (flatten (records_of form w)) ≡ record_size form * length w
  records_long w good =
      let all = take_all (length w) (records_of form w) (omega (arith, length-map w (record_of form))) in
      ap (λ (ls : List (List ℕ)). length (flatten ls)) (sym all) ∙ records-before w good (length w) (omega arith)

  pub starts_are : (w : Wall) → GoodWall w → starts_of (records_of form w) ≡ each (λ k. high_low (record_size form * k)) (length w)
  unfolding starts_of flatten
  starts_are w good = grind (arith, common_steps, length-map, each_alike, high_low, start_of, records_of, record_size, records-before)

-- The products with a record's size that bounds need, which each form has for itself.
abbrev pub Products : ℕ → ℕ → ℕ → Type 0
Products size k n = ((size + 2) * n ≡ size * n + 2 * n) × (k < n → size * k + size ≤ size * n) × (k ≤ n → size * k ≤ size * n) × (size * n ≤ 43 * n) × (size ≤ 43)

pub products : (form : Form) (k n : ℕ) → Products (record_size form) k n
products Form.One k n = grind (arith, common_steps)
products Form.Two k n = grind (arith, common_steps)
