-- The fields of a record that is kept, as the walk over them meets them. Assumes nothing.
use mathlib.Core.Path.{◌≡◌, refl, sym, ap, ap₂, ◌∙◌}
use mathlib.Core.Bool.{Bool, true, false, false≢true}
use mathlib.Core.List.{List, [], ◌∷◌, ◌++◌, append_assoc, flatten}
use Prim.Native.Nat.{ℕ}
use native.Mathlib.Omega.{arith}
use lib.ListN.{length, get_or, drop, length-take, length-drop, take-append-drop}
use lib.Seq.{get_or-set_other, drop-cons, drop-drop}
use Rattle.settings.specs.declared.Profile.{Profile}
use Rattle.settings.specs.Settings.{byte_count, values_of, values_with}
use Rattle.models.specs.Models.{model_in}
use Rattle.models.proofs.Laws.{allowed_many}
use Rattle.panels.proofs.Values.{other_row}
use Rattle.image_forms.specs.declared.Form.{Form}
use Rattle.image_faults.specs.declared.Fault.{Fault}
use Rattle.image_record.specs.Field.{values_in, behind}
use Rattle.image_record.proofs.OnTheWay.{seen_with}
use Rattle.image_record.proofs.Steps.{Stands}
use Rattle.image_record.proofs.Gathering.{Gathering, taken_on, passed_on}
use Rattle.image_read.specs.Entries.{Entry, bytes_of}

-- the field of a row at the front of the bytes that are left
abbrev pub entry_at : ℕ → List ℕ → Entry
entry_at row left = record { code = get_or left 0 0; values = values_in row left }

-- from some rows seen, values and bytes to others, over fields that are taken or told
pub data Walked (form : Form) (profile : Profile) : List Bool → List ℕ → List ℕ → List Entry → List Fault → List Bool → List ℕ → List ℕ → Type 0 where
  stay : {s : List Bool} {v l : List ℕ} → Walked form profile s v l [] [] s v l
  took : {s s' : List Bool} {v l v' l' : List ℕ} {es : List Entry} {fs : List Fault} (row : ℕ) → Stands true form profile s v l row
      → Walked form profile (seen_with row s) (values_with row (values_in row l) v) (behind row l) es fs s' v' l'
      → Walked form profile s v l (entry_at row l ∷ es) fs s' v' l'
  told : {s s' : List Bool} {v l v' l' : List ℕ} {es : List Entry} {fs : List Fault} (row : ℕ) → Stands false form profile s v l row
      → Walked form profile (seen_with row s) v (behind row l) es fs s' v' l'
      → Walked form profile s v l (entry_at row l ∷ es) (Fault.NotAllowed (get_or l 0 0) ∷ fs) s' v' l'

module _ {form : Form} {profile : Profile} where
  -- one walk behind the other
  pub walked_on : {s t u : List Bool} {v l w m x n : List ℕ} {es ds : List Entry} {fs gs : List Fault} → Walked form profile s v l es fs t w m
      → Walked form profile t w m ds gs u x n → Walked form profile s v l (es ++ ds) (fs ++ gs) u x n
  walked_on stay b = b
  walked_on (took row h a) b = took row h (walked_on a b)
  walked_on (told row h a) b = told row h (walked_on a b)

  -- the bytes are those of the fields, and of what is left
  front : {t : Bool} {s : List Bool} {v l : List ℕ} {row : ℕ} → Stands t form profile s v l row → (es : List Entry) (rest : List ℕ) → behind row l ≡ bytes_of es ++ rest
      → l ≡ bytes_of (entry_at row l ∷ es) ++ rest
  unfolding bytes_of flatten
  front {l} {row} h es rest e =
      let vs = values_in row l in
      let n : length vs ≡ byte_count row = simp (length-take, length-drop) (omega (arith, h.whole)) in
      let parts : drop 2 l ≡ vs ++ behind row l = sym (take-append-drop (byte_count row) (drop 2 l)) ∙ ap (λ (k : List ℕ). vs ++ k) (drop-drop (byte_count row) 2 l) in
      drop-cons l 0 0 (omega (arith, h.whole)) ∙ ap (λ (k : List ℕ). get_or l 0 0 ∷ k) (drop-cons l 1 0 (omega (arith, h.whole)))
      ∙ ap₂ (λ (k : ℕ) (r : List ℕ). get_or l 0 0 ∷ k ∷ r) (h.count ∙ sym n) (parts ∙ ap (λ (k : List ℕ). vs ++ k) e ∙ sym (append_assoc vs (bytes_of es) rest))

  pub walked_fields : {s t : List Bool} {v l w m : List ℕ} {es : List Entry} {fs : List Fault} → Walked form profile s v l es fs t w m → l ≡ bytes_of es ++ m
  unfolding bytes_of flatten
  walked_fields stay = refl
  walked_fields (took {l' = m} {es = es} row h a) = front h es m (walked_fields a)
  walked_fields (told {l' = m} {es = es} row h a) = front h es m (walked_fields a)

  -- a row that was seen stays so, with its values
  pub walked_seen : {s t : List Bool} {v l w m : List ℕ} {es : List Entry} {fs : List Fault} → Gathering form profile s v → Walked form profile s v l es fs t w m
      → (r : ℕ) → get_or s r false ≡ true → (get_or t r false ≡ true) × (values_of r w ≡ values_of r v)
  walked_seen g stay r e = (e, refl)
  walked_seen {s} {v} {l} g (took row h a) r e =
      let apart : r ≡ row → ⊥ = λ k. false≢true (sym h.free.new ∙ ap (λ (j : ℕ). get_or s j false) (sym k) ∙ e) in
      let n = allowed_many (model_in profile v) row (values_in row l) h.allowed in
      let (on, same) = walked_seen (taken_on form profile g h) a r (get_or-set_other s row r true false apart ∙ e) in
      (on, same ∙ other_row row (values_in row l) v n g.in_range.full r apart)
  walked_seen {s} {v} {l} g (told row h a) r e =
      let apart : r ≡ row → ⊥ = λ k. false≢true (sym h.free.new ∙ ap (λ (j : ℕ). get_or s j false) (sym k) ∙ e) in
      walked_seen (passed_on form profile g h) a r (get_or-set_other s row r true false apart ∙ e)
