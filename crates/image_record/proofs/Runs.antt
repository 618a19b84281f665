-- The run over a record's fields, step by step. Assumes nothing.
use mathlib.Core.Path.{◌≡◌, refl, sym, ap, ◌∙◌}
use mathlib.Core.Bool.{Bool, true}
use mathlib.Core.List.{List}
use Prim.Native.Nat.{ℕ, zero, suc, ◌+◌, ◌-◌, ◌≤◌, ◌<◌}
use native.Mathlib.Nat.{not-suc-le-zero}
use native.Mathlib.Omega.{arith}
use lib.ListN.{length, drop, length-drop}
use lib.Seq.{drop-drop}
use Rattle.settings.specs.declared.Profile.{Profile}
use Rattle.settings.specs.Settings.{byte_count, values_with}
use Rattle.image_forms.specs.declared.Form.{Form}
use Rattle.image_record.specs.declared.Step.{Step}
use Rattle.image_record.specs.Field.{values_in, behind, step_at}
use Rattle.image_record.specs.Run.{Run, after_step, ran_for, run_from}
use Rattle.image_record.proofs.OnTheWay.{seen_with}
use Rattle.image_record.proofs.Steps.{stands, shorter}
use Rattle.image_record.proofs.Gathering.{Gathering, taken_on}

module _ (form : Form) (profile : Profile) where
  -- steps enough are steps enough
  enough : (n m : ℕ) (seen : List Bool) (values left : List ℕ) → length left < n → length left < m
      → ran_for form profile n seen values left ≡ ran_for form profile m seen values left
  unfolding ran_for
  enough zero m seen values left h k = absurd (not-suc-le-zero h)
  enough (suc n) zero seen values left h k = absurd (not-suc-le-zero k)
  enough (suc n) (suc m) seen values left h k =
      go (step_at form profile seen values left) refl (λ row l r. enough n m (seen_with row seen) (values_with row (values_in row left) values) (behind row left) l r)
    where
      go : (s : Step) → step_at form profile seen values left ≡ s
          → ((row : ℕ) → length (behind row left) < n → length (behind row left) < m
          → ran_for form profile n (seen_with row seen) (values_with row (values_in row left) values) (behind row left)
          ≡ ran_for form profile m (seen_with row seen) (values_with row (values_in row left) values) (behind row left))
          → after_step s seen values left (λ row. ran_for form profile n (seen_with row seen) (values_with row (values_in row left) values) (behind row left))
          ≡ after_step s seen values left (λ row. ran_for form profile m (seen_with row seen) (values_with row (values_in row left) values) (behind row left))
      go (Step.Field row) e ih = let less = shorter (stands form profile true seen values left row e) in ih row (omega arith) (omega arith)
      go (Step.NotAllowed row) e ih = refl
      go Step.Broken e ih = refl
      go Step.End e ih = refl

  -- one step of the run
  pub run_step : (seen : List Bool) (values left : List ℕ) (s : Step) → step_at form profile seen values left ≡ s
      → run_from form profile seen values left
      ≡ after_step s seen values left (λ row. run_from form profile (seen_with row seen) (values_with row (values_in row left) values) (behind row left))
  unfolding run_from ran_for
  run_step seen values left (Step.Field row) e =
      let less = shorter (stands form profile true seen values left row e) in
      rw e (enough (length left) (suc (length (behind row left))) (seen_with row seen) (values_with row (values_in row left) values) (behind row left) less (omega arith))
  run_step seen values left (Step.NotAllowed row) e = rw e
  run_step seen values left Step.Broken e = rw e
  run_step seen values left Step.End e = rw e

  -- what is so at the front of a run is so where it stops, if it stays so behind each field that is taken
  module _ (P : List Bool → List ℕ → List ℕ → Type 0)
      (on : (seen : List Bool) (values left : List ℕ) (row : ℕ) → step_at form profile seen values left ≡ Step.Field row → P seen values left
      → P (seen_with row seen) (values_with row (values_in row left) values) (behind row left)) where
    stays_for : (n : ℕ) (seen : List Bool) (values left : List ℕ) → P seen values left → let r = ran_for form profile n seen values left in P r.seen r.values r.left
    unfolding ran_for
    stays_for zero seen values left p = p
    stays_for (suc n) seen values left p =
        go (step_at form profile seen values left) refl (λ row. stays_for n (seen_with row seen) (values_with row (values_in row left) values) (behind row left))
      where
        go : (s : Step) → step_at form profile seen values left ≡ s
            → ((row : ℕ) → P (seen_with row seen) (values_with row (values_in row left) values) (behind row left)
            → let r = ran_for form profile n (seen_with row seen) (values_with row (values_in row left) values) (behind row left) in P r.seen r.values r.left)
            → let r = after_step s seen values left (λ row. ran_for form profile n (seen_with row seen) (values_with row (values_in row left) values) (behind row left)) in
            P r.seen r.values r.left
        go (Step.Field row) e ih = ih row (on seen values left row e p)
        go (Step.NotAllowed row) e ih = p
        go Step.Broken e ih = p
        go Step.End e ih = p

    pub run_stays : (seen : List Bool) (values left : List ℕ) → P seen values left → let r = run_from form profile seen values left in P r.seen r.values r.left
    unfolding run_from
    run_stays seen values left p = stays_for (suc (length left)) seen values left p

  pub run_gathers : (seen : List Bool) (values left : List ℕ) → Gathering form profile seen values
      → let r = run_from form profile seen values left in Gathering form profile r.seen r.values
  run_gathers seen values left g =
      run_stays (λ s v l. Gathering form profile s v) (λ s v l row e h. taken_on form profile h (stands form profile true s v l row e)) seen values left g

  -- where it stops is no field that can be taken
  pub record Stopped (r : Run) : Type 0 where
    pub there : step_at form profile r.seen r.values r.left ≡ r.step
    pub no_field : (row : ℕ) → r.step ≡ Step.Field row → ⊥

  stopped_for : (n : ℕ) (seen : List Bool) (values left : List ℕ) → length left < n → Stopped (ran_for form profile n seen values left)
  unfolding ran_for
  stopped_for zero seen values left h = absurd (not-suc-le-zero h)
  stopped_for (suc n) seen values left h =
      go (step_at form profile seen values left) refl (λ row less. stopped_for n (seen_with row seen) (values_with row (values_in row left) values) (behind row left) less)
    where
      go : (s : Step) → step_at form profile seen values left ≡ s
          → ((row : ℕ) → length (behind row left) < n → Stopped (ran_for form profile n (seen_with row seen) (values_with row (values_in row left) values) (behind row left)))
          → Stopped (after_step s seen values left (λ row. ran_for form profile n (seen_with row seen) (values_with row (values_in row left) values) (behind row left)))
      go (Step.Field row) e ih = let less = shorter (stands form profile true seen values left row e) in ih row (omega arith)
      go (Step.NotAllowed row) e ih = record { there = e; no_field = λ r f. let z : ◌≡◌ {A = ℕ} 0 1 = cc in omega arith }
      go Step.Broken e ih = record { there = e; no_field = λ r f. let z : ◌≡◌ {A = ℕ} 0 1 = cc in omega arith }
      go Step.End e ih = record { there = e; no_field = λ r f. let z : ◌≡◌ {A = ℕ} 0 1 = cc in omega arith }

  pub run_stopped : (seen : List Bool) (values left : List ℕ) → Stopped (run_from form profile seen values left)
  unfolding run_from
  run_stopped seen values left = stopped_for (suc (length left)) seen values left (omega arith)

  -- what is left is the end of what there was
  abbrev pub EndOf : List ℕ → List ℕ → Type 0
  EndOf all left = (length left ≤ length all) × (drop (length all - length left) all ≡ left)

  end_on : (all seen-left : List ℕ) (row : ℕ) → 2 + byte_count row ≤ length seen-left → EndOf all seen-left → EndOf all (behind row seen-left)
  end_on all left row h (few, e) =
      let c = 2 + byte_count row in
      let n = length-drop c left in
      let k : length all - length (behind row left) ≡ length all - length left + c = omega arith in
      (omega arith, ap (λ (j : ℕ). drop j all) k ∙ sym (drop-drop c (length all - length left) all) ∙ ap (drop c) e)

  pub run_left : (seen : List Bool) (values left : List ℕ) → EndOf left (run_from form profile seen values left).left
  run_left seen values left =
      run_stays (λ s v l. EndOf left l) (λ s v l row e h. end_on left l row (stands form profile true s v l row e).whole h) seen values left
      (omega arith, let none : length left - length left ≡ 0 = omega arith in ap (λ (j : ℕ). drop j left) none)
