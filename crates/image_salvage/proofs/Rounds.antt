-- What is so each time the loop over an image's records comes round, and what it comes to. Assumes nothing.
use mathlib.Core.Path.{◌≡◌, refl, sym, ap, subst, ◌∙◌}
use mathlib.Core.Bool.{Bool, true, false, false≢true}
use mathlib.Core.List.{List, [], ◌∷◌, ◌++◌}
use Prim.Native.Nat.{ℕ, ◌+◌, ◌*◌, ◌≤◌, ◌<◌}
use native.Mathlib.Nat.{zero-add}
use native.Mathlib.Numerals.{add-one}
use native.Mathlib.Omega.{arith}
use lib.ListN.{length, take, drop, set, replicate, length-set}
use lib.Seq.{drop-length}
use Rattle.std.specs.Prelude.{Option, Some, None, is_some, unwrap_or, option_map}
use Rattle.std.specs.Option.{option_map_or}
use Rattle.settings.specs.declared.Profile.{Profile}
use Rattle.settings.specs.Settings.{fresh_values, row_count}
use Rattle.lists.specs.Lists.{laid_at, laid_over}
use Rattle.lists.proofs.Laid.{laid_over_lem}
use Rattle.panels.specs.declared.Panel.{Panel}
use Rattle.panels.specs.Wall.{Wall, blank, in_places, most_panels, id_count}
use Rattle.panels.proofs.Laws.{none-held, one-held}
use Rattle.image_forms.specs.declared.Form.{Form}
use Rattle.image_forms.specs.Forms.{head_size}
use Rattle.image_faults.specs.declared.Fault.{Fault}
use Rattle.image_faults.specs.Lines.{longest_line}
use Rattle.image_frame.specs.Frame.{form_of, count_of, record_in, records_in}
use Rattle.image_frame.proofs.Edges.{record_next, record_count}
use Rattle.image_record.specs.Head.{marked, head_in, headed}
use Rattle.image_record.proofs.Heads.{Marks, none-marked, one_more as one-marked, head_alike}
use Rattle.image_salvage.specs.declared.KeptRecord.{KeptRecord}
use Rattle.image_salvage.specs.Kept.{kept_of, most_faults}
use Rattle.image_salvage.specs.Salvaged.{Salvage, behind_faults, salvaged_from, lines_of, text_from, text_of, lines_cap}
use Rattle.image_salvage.specs.Private.Marked.{faults_by, record_by}
use Rattle.image_salvage.proofs.Laying.{Laying, begun, one_more, all_laid}
use Rattle.image_salvage.proofs.Bounds.{faults-few, lines_short}
use Rattle.image_salvage.proofs.Sound.{record_dropped, record_kept}

module _ (form : Form) (number from : ℕ) (seen : List Bool) (bytes : List ℕ) where
  -- a record is kept where its head fits, and else dropped
  kept_by : {p : Panel} → (record_by form number from seen bytes).panel ≡ Some p
      → (profile : Profile) × (head_in form (marked seen) bytes ≡ Some profile) × (headed bytes profile (kept_of form profile (drop (head_size form) bytes)).values ≡ p)
  unfolding record_by
  kept_by {p} e = go (head_in form (marked seen) bytes) refl e
    where
      panel : Profile → Panel
      panel profile = headed bytes profile (kept_of form profile (drop (head_size form) bytes)).values

      go : (n : Option Profile) → head_in form (marked seen) bytes ≡ n → option_map panel n ≡ Some p
          → (profile : Profile) × (head_in form (marked seen) bytes ≡ Some profile) × (panel profile ≡ p)
      go (Some profile) h e = (profile, h, ap (λ (o : Option Panel). unwrap_or o blank) e)
      go None h e = absurd (false≢true (ap is_some e))

  dropped_by : (record_by form number from seen bytes).panel ≡ None → head_in form (marked seen) bytes ≡ None
  unfolding record_by
  dropped_by e = go (head_in form (marked seen) bytes) refl e
    where
      go : (n : Option Profile) → head_in form (marked seen) bytes ≡ n
          → option_map (λ profile. headed bytes profile (kept_of form profile (drop (head_size form) bytes)).values) n ≡ None → head_in form (marked seen) bytes ≡ None
      go (Some profile) h e = absurd (false≢true (sym (ap is_some e)))
      go None h e = h

  -- its faults are few, and so its lines are short
  pub lines_few : length (lines_of number (faults_by form seen bytes)) ≤ most_faults * longest_line
  unfolding faults_by
  lines_few = go (head_in form (marked seen) bytes)
    where
      go : (n : Option Profile) → length (lines_of number (option_map_or (λ profile. (kept_of form profile (drop (head_size form) bytes)).faults) n (Fault.Dropped ∷ []))) ≤ most_faults * longest_line
      go (Some profile) = omega (arith, lines_short number (kept_of form profile (drop (head_size form) bytes)).faults, faults-few form profile most_faults (replicate row_count false) (fresh_values profile) (drop (head_size form) bytes))
      go None = omega (arith, lines_short number (Fault.Dropped ∷ []))

module _ (image first : List ℕ) where
  abbrev form : Form
  form = form_of image

  abbrev whole : Salvage
  whole = salvaged_from form [] (records_in image)

  abbrev left : Wall → ℕ → Salvage
  left w k = salvaged_from form w (drop k (records_in image))

  -- what is left comes to what the whole comes to, and its lines are still to be laid
  pub record Round (lines : List ℕ) (places : Wall) (count : ℕ) (seen : List Bool) (next k : ℕ) : Type 0 where
    pub few : k ≤ count_of image
    pub room : next ≤ most_faults * longest_line * k
    pub held : places ≡ in_places (take count places)
    pub panels : count ≤ k
    pub full : length seen ≡ id_count
    pub marks : Marks seen (take count places)
    pub laying : Laying 0 first (text_of whole) lines next (text_from (k + 1) (left (take count places) k).faults)
    pub kept : (left (take count places) k).wall ≡ whole.wall

  -- at last
  pub record All (lines : List ℕ) (w : Wall) (next : ℕ) : Type 0 where
    pub kept : w ≡ whole.wall
    pub told : next ≡ length (text_of whole)
    pub laid : lines ≡ laid_over (text_of whole) first

  pub begins : {p : Panel} → p ≡ blank → Round first (replicate most_panels p) 0 (replicate id_count false) 0 0
  begins e =
      record {
        few = omega arith;
        room = omega arith;
        held = ap (replicate most_panels) e ∙ none-held;
        panels = omega arith;
        full = refl;
        marks = none-marked id_count;
        laying = begun 0 first (text_of whole) (omega arith);
        kept = refl;
      }

  module _ {lines : List ℕ} {places : Wall} {count : ℕ} {seen : List Bool} {next k : ℕ} (r : Round lines places count seen next k) where
    -- the panels so far
    abbrev wall : Wall
    wall = take count places

    -- no records are left
    pub ended : count_of image ≤ k → All lines wall next
    unfolding salvaged_from text_from
    ended h =
        let all : k ≡ length (records_in image) = omega (arith, record_count image, r.few) in
        let none : drop k (records_in image) ≡ [] = rw all (drop-length (records_in image)) in
        let rest : left wall k ≡ record { wall = wall; faults = [] } = rw none in
        let (n, l) = all_laid (subst (λ (s : Salvage). Laying 0 first (text_of whole) lines next (text_from (k + 1) s.faults)) rest r.laying) (omega arith) in
        record {
          kept = ap (λ (s : Salvage). s.wall) (sym rest) ∙ r.kept;
          told = n ∙ zero-add (length (text_of whole));
          laid = l ∙ laid_over_lem (text_of whole) first;
        }

    module _ (most : count_of image ≤ most_panels) (enough : lines_cap ≤ length first) (more : k < count_of image) where
      abbrev bytes : List ℕ
      bytes = record_in image k

      abbrev read : KeptRecord
      read = record_by form (k + 1) next seen bytes

      abbrev piece : List ℕ
      piece = lines_of (k + 1) (faults_by form seen bytes)

      pub piece_room : next + most_faults * longest_line ≤ length lines
      piece_room = omega (arith, r.room, r.laying.long, most)

      -- a record's lines are laid, and its faults were the next
      told_on : (v : Wall) → (left wall k).faults ≡ faults_by form seen bytes ∷ (left v (k + 1)).faults → {after : List ℕ} {place : ℕ}
          → after ≡ laid_at next piece lines → place ≡ read.next
          → Laying 0 first (text_of whole) after place (text_from (k + 1 + 1) (left v (k + 1)).faults)
      unfolding text_from record_by
      told_on v e {after} {place} laid placed =
          let rest = text_from (k + 1 + 1) (left v (k + 1)).faults in
          let text : text_from (k + 1) (left wall k).faults ≡ piece ++ rest = rw e (rw (← add-one (k + 1))) in
          let l = one_more piece (subst (Laying 0 first (text_of whole) lines next) text r.laying) (omega (arith, r.room, most, lines_few form (k + 1) next seen bytes)) in
          subst (λ (s : List ℕ). Laying 0 first (text_of whole) s place rest) (sym laid)
          (subst (λ (n : ℕ). Laying 0 first (text_of whole) (laid_at next piece lines) n rest) (sym placed) l)

      place_on : {place : ℕ} → place ≡ read.next → place ≤ most_faults * longest_line * (k + 1)
      unfolding record_by
      place_on e = omega (arith, e, r.room, lines_few form (k + 1) next seen bytes)

      here : left wall k ≡ salvaged_from form wall (bytes ∷ drop (k + 1) (records_in image))
      here = ap (salvaged_from form wall) (record_next image k more)

      -- one record more, where what the code has is what it should have: dropped
      pub dropped_on : {after : List ℕ} {place : ℕ} → read.panel ≡ None → after ≡ laid_at next piece lines → place ≡ read.next
          → Round after places count seen place (k + 1)
      unfolding faults_by
      dropped_on e laid placed =
          let unknown = dropped_by form (k + 1) next seen bytes e in
          let is = here ∙ record_dropped form wall bytes _ (sym (head_alike r.marks form bytes) ∙ unknown) in
          let faults : faults_by form seen bytes ≡ Fault.Dropped ∷ [] = rw unknown in
          record {
            few = more_suc;
            room = place_on placed;
            held = r.held;
            panels = omega (arith, r.panels);
            full = r.full;
            marks = r.marks;
            laying = told_on wall (ap (λ (s : Salvage). s.faults) is ∙ ap (λ (fs : List Fault). fs ∷ (left wall (k + 1)).faults) (sym faults)) laid placed;
            kept = ap (λ (s : Salvage). s.wall) (sym is) ∙ r.kept;
          }
        where
          more_suc : k + 1 ≤ count_of image
          more_suc = omega arith

      -- or kept
      pub kept_on : {after : List ℕ} {place : ℕ} {panel : Panel} → read.panel ≡ Some panel → after ≡ laid_at next piece lines → place ≡ read.next → panel.id.0 < id_count
          → Round after (set places count panel) (count + 1) (set seen panel.id.0 true) place (k + 1)
      unfolding faults_by
      kept_on {panel} e laid placed small =
          let (profile, known, is_panel) = kept_by form (k + 1) next seen bytes e in
          let kept = kept_of form profile (drop (head_size form) bytes) in
          let fits = sym (head_alike r.marks form bytes) ∙ known in
          let same : panel ≡ headed bytes profile kept.values = sym is_panel in
          let v = wall ++ panel ∷ [] in
          let with : wall ++ headed bytes profile kept.values ∷ [] ≡ v = ap (λ (p : Panel). wall ++ p ∷ []) (sym same) in
          let is : left wall k ≡ behind_faults kept.faults (left v (k + 1)) =
          here ∙ record_kept form wall bytes _ profile fits ∙ ap (λ (v : Wall). behind_faults kept.faults (salvaged_from form v (drop (k + 1) (records_in image)))) with in
          let faults : faults_by form seen bytes ≡ kept.faults = rw known in
          let (held, on) = one-held places count panel (omega (arith, r.panels, most)) r.held in
          record {
            few = omega arith;
            room = place_on placed;
            held = held;
            panels = omega (arith, r.panels);
            full = length-set seen panel.id.0 true ∙ r.full;
            marks = subst (Marks (set seen panel.id.0 true)) (sym on) (one-marked panel r.marks (omega (arith, r.full)));
            laying = rw on (told_on v (ap (λ (s : Salvage). s.faults) is ∙ ap (λ (fs : List Fault). fs ∷ (left v (k + 1)).faults) (sym faults)) laid placed);
            kept = rw on (ap (λ (s : Salvage). s.wall) (sym is) ∙ r.kept);
          }
