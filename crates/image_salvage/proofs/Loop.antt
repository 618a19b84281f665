-- What is so each time the walk over a record's fields comes round, and what it comes to. Assumes nothing.
use mathlib.Core.Path.{◌≡◌, refl, sym, ap, subst, ◌∙◌}
use mathlib.Core.Bool.{Bool, false}
use mathlib.Core.List.{List, [], ◌∷◌, ◌++◌}
use Prim.Native.Nat.{ℕ, suc, ◌+◌, ◌-◌, ◌*◌, ◌≤◌, ◌<◌}
use native.Mathlib.Nat.{add_assoc, add-zero}
use native.Mathlib.Omega.{arith}
use lib.ListN.{length, get_or, drop, replicate, length-drop}
use lib.Seq.{get_or-drop, drop-drop}
use Rattle.settings.specs.declared.Profile.{Profile}
use Rattle.settings.specs.Settings.{byte_count, fresh_values, row_count}
use Rattle.lists.specs.Lists.{laid_at}
use Rattle.image_forms.specs.declared.Form.{Form}
use Rattle.image_faults.specs.declared.Fault.{Fault}
use Rattle.image_faults.specs.Lines.{line_of, longest_line}
use Rattle.image_faults.proofs.Laws.{line_short}
use Rattle.image_record.specs.declared.Step.{Step}
use Rattle.image_record.specs.Field.{behind}
use Rattle.image_record.specs.Run.{Run, run_from}
use Rattle.image_record.proofs.OnTheWay.{seen_with}
use Rattle.image_record.proofs.Steps.{Stands, broken_some}
use Rattle.image_record.proofs.Gathering.{Gathering, none_gathered, passed_on}
use Rattle.image_record.proofs.Runs.{run_stopped, run_gathers, run_left}
use Rattle.image_salvage.specs.Kept.{Kept, telling, kept_from, kept_of, most_faults}
use Rattle.image_salvage.specs.Salvaged.{lines_of}
use Rattle.image_salvage.proofs.Laying.{Laying, begun, one_more, all_laid}
use Rattle.image_salvage.proofs.Walk.{lines_more, lines_none, kept_step, kept_passed, behind_run}

module _ (form : Form) (profile : Profile) (number : ℕ) (bytes first : List ℕ) (from : ℕ) where
  abbrev whole : Kept
  whole = kept_of form profile bytes

  abbrev text : List ℕ
  text = lines_of number whole.faults

  abbrev left : List Bool → List ℕ → ℕ → ℕ → Kept
  left seen values at k = kept_from form profile (most_faults - k) seen values (drop at bytes)

  -- what is left comes to what the whole comes to, and its lines are still to be laid
  pub record Turn (lines values : List ℕ) (seen : List Bool) (at next k : ℕ) : Type 0 where
    pub enough : from + most_faults * longest_line ≤ length first
    pub steps : k ≤ most_faults
    pub inside : at ≤ length bytes
    pub room : next ≤ from + longest_line * k
    pub gathering : Gathering form profile seen values
    pub laying : Laying from first text lines next (lines_of number (left seen values at k).faults)
    pub kept : (left seen values at k).values ≡ whole.values

  -- at last
  pub record Over (lines values : List ℕ) (next : ℕ) : Type 0 where
    pub long : length lines ≡ length first
    pub kept : values ≡ (kept_of form profile bytes).values
    pub place : next ≡ from + length (lines_of number (kept_of form profile bytes).faults)
    pub laid : lines ≡ laid_at from (lines_of number (kept_of form profile bytes).faults) first

  pub begins : from + most_faults * longest_line ≤ length first → Turn first (fresh_values profile) (replicate row_count false) 0 from 0
  begins h = record { enough = h; steps = omega arith; inside = omega arith; room = omega arith; gathering = none_gathered form profile; laying = begun from first _ (omega arith); kept = refl }

  module _ {lines values : List ℕ} {seen : List Bool} {at next k : ℕ} (t : Turn lines values seen at next k) where
    ended : (rest : Kept) → left seen values at k ≡ rest → rest.faults ≡ [] → {last : List ℕ} → rest.values ≡ last → Over lines last next
    ended rest e none same =
        let nothing : lines_of number (left seen values at k).faults ≡ [] = rw (e, none) (lines_none number) in
        let (n, l) = all_laid (subst (Laying from first text lines next) nothing t.laying) (omega (arith, t.enough)) in
        record { long = t.laying.long; kept = sym same ∙ ap (λ (r : Kept). r.values) (sym e) ∙ t.kept; place = n; laid = l }

    -- no steps are left
    pub used_up : most_faults ≤ k → Over lines values next
    unfolding kept_from
    used_up h = let none : most_faults - k ≡ 0 = omega arith in ended (record { values = values; faults = [] }) (rw none) refl refl

    -- the run from here on
    abbrev run : Run
    run = run_from form profile seen values (drop at bytes)

    abbrev there : ℕ
    there = at + (length (drop at bytes) - length run.left)

    pub run_inside : there ≤ length bytes
    run_inside = omega (arith, length-drop at bytes, t.inside, (run_left form profile seen values (drop at bytes)).0)

    pub run_behind : drop there bytes ≡ run.left
    run_behind = sym (drop-drop (length (drop at bytes) - length run.left) at bytes) ∙ (run_left form profile seen values (drop at bytes)).1

    pub code : get_or run.left 0 0 ≡ get_or bytes there 0
    code = ap (λ (l : List ℕ). get_or l 0 0) (sym run_behind) ∙ get_or-drop there bytes 0 0 ∙ rw add-zero

    module _ (more : k < most_faults) where
      here : left seen values at k ≡ kept_from form profile (suc (most_faults - (k + 1))) seen values (drop at bytes)
      here = let n : most_faults - k ≡ suc (most_faults - (k + 1)) = omega arith in rw n

      pub at_end : run.step ≡ Step.End → Over lines run.values next
      at_end e = ended (record { values = run.values; faults = [] }) (here ∙ kept_step form profile _ seen values (drop at bytes) Step.End e) refl refl

      pub at_field : (row : ℕ) → run.step ≡ Step.Field row → Over lines run.values next
      at_field row e = absurd ((run_stopped form profile seen values (drop at bytes)).no_field row e)

      -- a line is laid, and its fault was the next
      pub line_room : next + longest_line ≤ length lines
      line_room = omega (arith, t.enough, t.room, t.laying.long)

      line_fits : (fault : Fault) → next + length (line_of number fault) ≤ length first
      line_fits fault = omega (arith, t.enough, t.room, line_short number fault)

      told : (fault : Fault) (faults : List Fault) → (left seen values at k).faults ≡ fault ∷ faults
          → Laying from first text (laid_at next (line_of number fault) lines) (next + length (line_of number fault)) (lines_of number faults)
      told fault faults e =
          let lines_are : lines_of number (left seen values at k).faults ≡ line_of number fault ++ lines_of number faults = rw e (lines_more number fault faults) in
          one_more (line_of number fault) (subst (Laying from first text lines next) lines_are t.laying) (line_fits fault)

      pub broken_inside : run.step ≡ Step.Broken → there < length bytes
      broken_inside e =
          let some = broken_some form profile run.seen run.values run.left ((run_stopped form profile seen values (drop at bytes)).there ∙ e) in
          omega (arith, some, ap length run_behind, length-drop there bytes)

      pub at_broken : run.step ≡ Step.Broken → {after : List ℕ} {place : ℕ}
          → after ≡ laid_at next (line_of number (Fault.Broken (get_or bytes there 0))) lines → place ≡ next + length (line_of number (Fault.Broken (get_or bytes there 0)))
          → Over after run.values place
      at_broken e {after} {place} laid placed =
          let fault = Fault.Broken (get_or bytes there 0) in
          let is : left seen values at k ≡ record { values = run.values; faults = fault ∷ [] } =
          here ∙ kept_step form profile _ seen values (drop at bytes) Step.Broken e ∙ ap {B = Kept} (λ (c : ℕ). record { values = run.values; faults = Fault.Broken c ∷ [] }) code in
          let l = told fault [] (ap (λ (r : Kept). r.faults) is) in
          let (n, all) = all_laid (subst (Laying from first text _ _) (lines_none number) l) (omega (arith, t.enough)) in
          record {
            long = ap length laid ∙ l.long;
            kept = ap (λ (r : Kept). r.values) (sym is) ∙ t.kept;
            place = placed ∙ n;
            laid = laid ∙ all;
          }

      pub passed : {row : ℕ} → run.step ≡ Step.NotAllowed row → Stands false form profile run.seen run.values run.left row
      passed {row} e = behind_run form profile k seen values (drop at bytes) false row e

      pub passed_inside : {row : ℕ} → run.step ≡ Step.NotAllowed row → there + 2 + byte_count row ≤ length bytes
      passed_inside e = omega (arith, (passed e).whole, ap length run_behind, length-drop there bytes, run_inside)

      -- one run more, where what the code has is what it should have
      pub at_passed : (row : ℕ) → run.step ≡ Step.NotAllowed row → {after : List ℕ} {place count : ℕ}
          → after ≡ laid_at next (line_of number (Fault.NotAllowed (get_or bytes there 0))) lines
          → place ≡ next + length (line_of number (Fault.NotAllowed (get_or bytes there 0))) → count ≡ byte_count row
          → Turn after run.values (seen_with row run.seen) (there + 2 + count) place (k + 1)
      at_passed row e {after} {place} {count} laid placed counted =
          let fault = Fault.NotAllowed (get_or bytes there 0) in
          let line = line_of number fault in
          let seen-on = seen_with row run.seen in
          let rest : behind row run.left ≡ drop (there + 2 + byte_count row) bytes =
          ap (behind row) (sym run_behind) ∙ drop-drop (2 + byte_count row) there bytes ∙ ap (λ (j : ℕ). drop j bytes) (sym (add_assoc there 2 (byte_count row))) in
          let is : left seen values at k ≡ telling fault (left seen-on run.values (there + 2 + byte_count row) (k + 1)) =
          here ∙ kept_passed form profile _ seen values (drop at bytes) row t.gathering e ∙ rw (rest, code) in
          subst (λ (l : List ℕ). Turn l run.values seen-on (there + 2 + count) place (k + 1)) (sym laid)
          (subst (λ (n : ℕ). Turn (laid_at next line lines) run.values seen-on (there + 2 + count) n (k + 1)) (sym placed)
          (subst (λ (n : ℕ). Turn (laid_at next line lines) run.values seen-on (there + 2 + n) (next + length line) (k + 1)) (sym counted)
          (record {
            enough = t.enough;
            steps = omega arith;
            inside = passed_inside e;
            room = omega (arith, t.room, line_short number fault);
            gathering = passed_on form profile (run_gathers form profile seen values (drop at bytes) t.gathering) (passed e);
            laying = told fault _ (ap (λ (r : Kept). r.faults) is);
            kept = ap (λ (r : Kept). r.values) (sym is) ∙ t.kept;
          })))

      -- the same of what the code calls so: where the run stopped, and what it left
      module _ {stop : ℕ} (stop_is : stop ≡ there) where
        line_is : (f : ℕ → Fault) {after : List ℕ} {place : ℕ}
            → after ≡ laid_at next (line_of number (f (get_or bytes stop 0))) lines → place ≡ next + length (line_of number (f (get_or bytes stop 0)))
            → (after ≡ laid_at next (line_of number (f (get_or bytes there 0))) lines) × (place ≡ next + length (line_of number (f (get_or bytes there 0))))
        line_is f laid placed =
            (laid ∙ ap (λ (j : ℕ). laid_at next (line_of number (f (get_or bytes j 0))) lines) stop_is, placed ∙ ap (λ (j : ℕ). next + length (line_of number (f (get_or bytes j 0)))) stop_is)

        pub broken_over : run.step ≡ Step.Broken → {after : List ℕ} {place : ℕ}
            → after ≡ laid_at next (line_of number (Fault.Broken (get_or bytes stop 0))) lines → place ≡ next + length (line_of number (Fault.Broken (get_or bytes stop 0)))
            → Over after run.values place
        broken_over e laid placed = let (l, p) = line_is Fault.Broken laid placed in at_broken e l p

        pub passed_turn : {row : ℕ} → run.step ≡ Step.NotAllowed row → {after last : List ℕ} {marks : List Bool} {place count : ℕ}
            → after ≡ laid_at next (line_of number (Fault.NotAllowed (get_or bytes stop 0))) lines
            → place ≡ next + length (line_of number (Fault.NotAllowed (get_or bytes stop 0))) → count ≡ byte_count row → last ≡ run.values → marks ≡ run.seen
            → Turn after last (seen_with row marks) (stop + 2 + count) place (k + 1)
        passed_turn {row} e {after} {last} {marks} {place} {count} laid placed counted last-is marks-is =
            let (l, p) = line_is Fault.NotAllowed laid placed in
            subst (λ (v : List ℕ). Turn after v (seen_with row marks) (stop + 2 + count) place (k + 1)) (sym last-is)
            (subst (λ (m : List Bool). Turn after run.values (seen_with row m) (stop + 2 + count) place (k + 1)) (sym marks-is)
            (subst (λ (j : ℕ). Turn after run.values (seen_with row run.seen) (j + 2 + count) place (k + 1)) (sym stop_is) (at_passed row e l p counted)))
