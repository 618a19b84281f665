-- An image made of records has these records. Assumes nothing.
use mathlib.Core.Path.{◌≡◌, refl, sym, ap, ap₂, ◌∙◌}
use mathlib.Core.Bool.{true}
use mathlib.Core.List.{List, [], ◌∷◌, ◌++◌, append_assoc, flatten}
use mathlib.Core.Logic.{⊎_elim}
use Prim.Native.Nat.{ℕ, zero, suc, ◌+◌, ◌-◌, ◌*◌, ◌≤◌, ◌<◌}
use native.Mathlib.Nat.{add-zero, eq-or-lt_of_le, div-add-mod}
use native.Mathlib.Omega.{arith}
use borrow.Author.Tests.{le-ltb, lt-ltb, eq-eqb}
use lib.ListN.{length, get_or, take, drop, length-append, get_or-append}
use lib.Seq.{take_at, drop_at, take_all, get_or-append-add}
use Rattle.std.specs.Prelude.{Some, Ok}
use Rattle.panels.specs.Wall.{most_panels}
use Rattle.lists.specs.Lists.{start_of, each}
use Rattle.lists.proofs.Flat.{in_flat, flat_more, flat_at}
use Rattle.lists.proofs.Each.{in_each, each_alike, each_get_d}
use Rattle.image_forms.specs.declared.Form.{Form}
use Rattle.image_forms.specs.Forms.{form_byte, form_with}
use Rattle.image_forms.proofs.Laws.{byte_back}
use Rattle.image_write.specs.Written.{high_low, starts_of, image_of}
use Rattle.image_frame.specs.Frame.{last_byte, form_of, count_of, starts_at, start_at, edge, rises, starts_fit, frame_of, record_in, records_in}
use Rattle.image_write.proofs.Lengths.{pairs_before, starts_count, image-length}

module _ (form : Form) (records : List (List ℕ)) where
  -- the trailer
  in_trailer : (k : ℕ) → get_or (image_of form records) (length (flatten records) + 2 * length records + k) 0 ≡ get_or (length records ∷ form_byte form ∷ []) k 0
  unfolding image_of
  in_trailer k =
      let p = flatten records ++ flatten (starts_of records) in
      let e : length p ≡ length (flatten records) + 2 * length records = length-append (flatten records) (flatten (starts_of records)) ∙ ap (λ (m : ℕ). length (flatten records) + m) (starts_count records) in
      rw (← e) (get_or-append-add p (length records ∷ form_byte form ∷ []) k 0)

  form_is : last_byte (image_of form records) ≡ form_byte form
  form_is =
      let e : length (image_of form records) - 1 ≡ length (flatten records) + 2 * length records + 1 = omega (arith, image-length form records) in
      rw e (in_trailer 1)

  form_known : form_with (last_byte (image_of form records)) ≡ Some form
  form_known = ap form_with form_is ∙ byte_back form

  pub form_back : form_of (image_of form records) ≡ form
  form_back = rw form_known

  count_is : count_of (image_of form records) ≡ length records
  count_is =
      let e : length (image_of form records) - 2 ≡ length (flatten records) + 2 * length records + 0 = omega (arith, image-length form records) in
      rw e (in_trailer 0)

  starts_at_lem : starts_at (image_of form records) ≡ length (flatten records)
  starts_at_lem = rw count_is (omega (arith, image-length form records))

  -- a byte of a start
  in_starts : (k j : ℕ) → k < length records → j < 2 → get_or (image_of form records) (length (flatten records) + 2 * k + j) 0 ≡ get_or (high_low (start_of records k)) j 0
  unfolding image_of starts_of flatten
  in_starts k j h g =
      let ls = starts_of records in
      let s = flatten ls in
      let pair = in_each (λ k. high_low (start_of records k)) (length records) {k = k} [] h in
      let at : start_of ls k ≡ 2 * k = pairs_before (λ k. start_of records k) (length records) k (omega arith) in
      let e : length (flatten records) + 2 * k + j ≡ length (flatten records) + (2 * k + j) = omega arith in
      let here : 2 * k + j < length s = omega (arith, starts_count records) in
      rw (append_assoc (flatten records) s, e, get_or-append-add (flatten records) _ (2 * k + j) 0, get_or-append s _ 0 (2 * k + j) here, ← at)
      (in_flat ls k j 0 (rw pair g) ∙ rw pair)

  start_is : (k : ℕ) → k < length records → start_at (image_of form records) k ≡ start_of records k
  unfolding flatten
  start_is k h =
      let image = image_of form records in
      let s = start_of records k in
      let high = ap (λ (m : ℕ). get_or image m 0) (sym (add-zero (length (flatten records) + 2 * k))) ∙ in_starts k 0 h (omega arith) in
      let low = in_starts k 1 h (omega arith) in
      ap (λ (m : ℕ). 256 * get_or image (m + 2 * k) 0 + get_or image (m + 2 * k + 1) 0) starts_at_lem
      ∙ ap₂ (λ (a b : ℕ). 256 * a + b) high low ∙ div-add-mod s 256

  edge_is : (k : ℕ) → k ≤ length records → edge (image_of form records) k ≡ start_of records k
  unfolding edge flatten
  edge_is k h = ⊎_elim last inner (eq-or-lt_of_le h)
    where
      inner : k < length records → edge (image_of form records) k ≡ start_of records k
      inner g = rw (lt-ltb k (count_of (image_of form records)) (omega (arith, count_is))) (start_is k g)

      last : k ≡ length records → edge (image_of form records) k ≡ start_of records k
      last e =
          rw (le-ltb k (count_of (image_of form records)) (omega (arith, count_is)))
          (starts_at_lem ∙ ap (λ (ls : List (List ℕ)). length (flatten ls)) (sym (take_all k records (omega arith))))

  next_start : (k : ℕ) → k < length records → start_of records (suc k) ≡ start_of records k + length (get_or records k [])
  unfolding flatten
  next_start k h = ap length (flat_more records k h) ∙ length-append (flatten (take k records)) (get_or records k [])

  -- none of them empty, and at most 32
  module _ (full : (k : ℕ) → k < length records → 0 < length (get_or records k [])) (few : length records ≤ most_panels) where
    rises_all : (m k : ℕ) → k + m ≡ length records → rises (image_of form records) k m ≡ true
    unfolding rises
    rises_all zero k e = refl
    rises_all (suc m) k e =
        let up : edge (image_of form records) k < edge (image_of form records) (suc k) =
        omega (arith, edge_is k (omega arith), edge_is (suc k) (omega arith), next_start k (omega arith), full k (omega arith)) in
        rw (lt-ltb (edge (image_of form records) k) (edge (image_of form records) (suc k)) up) (rises_all m (suc k) (omega arith))

    starts_fit_lem : starts_fit (image_of form records) ≡ true
    unfolding starts_fit flatten
    starts_fit_lem =
        rw (eq-eqb (edge (image_of form records) 0) 0 (edge_is 0 (omega arith)))
        (ap (rises (image_of form records) 0) count_is ∙ rises_all (length records) 0 (omega arith))

    pub whole-sound : frame_of (image_of form records) ≡ Ok (image_of form records)
    unfolding frame_of
    whole-sound =
        let image = image_of form records in
        rw (
          le-ltb (length image) 2 (omega (arith, image-length form records)),
          form_known,
          le-ltb most_panels (count_of image) (omega (arith, count_is)),
          le-ltb (length image) (2 * count_of image + 2) (omega (arith, image-length form records, count_is)),
          starts_fit_lem,
        )

    record_is : (k : ℕ) → k < length records → record_in (image_of form records) k ≡ get_or records k []
    unfolding image_of flatten
    record_is k h =
        let image = image_of form records in
        let p = flatten (take k records) in
        let r = get_or records k [] in
        let more = flatten (drop (suc k) records) ++ (flatten (starts_of records) ++ length records ∷ form_byte form ∷ []) in
        let whole : image ≡ p ++ (r ++ more) = rw (flat_at records k h) (simp append_assoc) in
        let long : start_of records (suc k) - start_of records k ≡ length r = omega (arith, next_start k h) in
        ap₂ (λ (a b : ℕ). take (b - a) (drop a image)) (edge_is k (omega arith)) (edge_is (suc k) h)
        ∙ ap₂ (λ (j : ℕ) (l : List ℕ). take j (drop (start_of records k) l)) long whole
        ∙ ap (take (length r)) (drop_at p (r ++ more) (length p) refl) ∙ take_at r more (length r) refl

    pub records_in_lem : records_in (image_of form records) ≡ records
    unfolding records_in
    records_in_lem =
        ap (each (record_in (image_of form records))) count_is
        ∙ each_alike (record_in (image_of form records)) (λ k. get_or records k []) (length records) record_is ∙ each_get_d records []
