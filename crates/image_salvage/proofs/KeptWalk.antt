-- What is kept of a record's fields is a walk over them that ends at the record's end or at a broken field. Assumes nothing.
use mathlib.Core.Path.{◌≡◌, refl, sym, ap, subst, ◌∙◌}
use mathlib.Core.Bool.{Bool, true, false}
use mathlib.Core.Logic.{◌⊎◌, inl, inr, ⊎_elim}
use mathlib.Core.List.Memᴰ
use mathlib.Core.List.{List, [], ◌∷◌, ◌++◌, Memᴰ}
use Prim.Native.Nat.{ℕ, zero, suc, ◌+◌, ◌≤◌, ◌<◌}
use native.Mathlib.Nat.{not-suc-le-zero}
use native.Mathlib.Omega.{arith}
use lib.ListN.{length, get_or}
use Rattle.settings.specs.declared.Profile.{Profile}
use Rattle.settings.specs.Settings.{values_with}
use Rattle.image_forms.specs.declared.Form.{Form}
use Rattle.image_faults.specs.declared.Fault.{Fault}
use Rattle.image_record.specs.declared.Step.{Step}
use Rattle.image_record.specs.Field.{values_in, behind, step_at}
use Rattle.image_record.specs.Run.{after_step, ran_for, run_from}
use Rattle.image_record.proofs.OnTheWay.{seen_with}
use Rattle.image_record.proofs.Steps.{stands}
use Rattle.image_record.proofs.Gathering.{Gathering, taken_on, passed_on, there}
use Rattle.image_record.proofs.Runs.{run_stopped, run_gathers}
use Rattle.image_read.specs.Entries.{Entry}
use Rattle.image_salvage.specs.Kept.{Kept, kept_from}
use Rattle.image_salvage.proofs.Walk.{kept_step, kept_passed, behind_run}
use Rattle.image_salvage.proofs.Unseen.{unseen, one_less}
use Rattle.image_salvage.proofs.Walked.{Walked, stay, took, told, walked_on, entry_at}

module _ (form : Form) (profile : Profile) where
  -- a run takes fields and tells nothing
  ran_walked : (n : ℕ) (seen : List Bool) (values left : List ℕ) → let r = ran_for form profile n seen values left in
      (es : List Entry) × Walked form profile seen values left es [] r.seen r.values r.left
  unfolding ran_for
  ran_walked zero seen values left = ([], stay)
  ran_walked (suc n) seen values left =
      go (step_at form profile seen values left) refl (λ row. ran_walked n (seen_with row seen) (values_with row (values_in row left) values) (behind row left))
    where
      go : (s : Step) → step_at form profile seen values left ≡ s
          → ((row : ℕ) → let r = ran_for form profile n (seen_with row seen) (values_with row (values_in row left) values) (behind row left) in
          (es : List Entry) × Walked form profile (seen_with row seen) (values_with row (values_in row left) values) (behind row left) es [] r.seen r.values r.left)
          → let r = after_step s seen values left (λ row. ran_for form profile n (seen_with row seen) (values_with row (values_in row left) values) (behind row left)) in
          (es : List Entry) × Walked form profile seen values left es [] r.seen r.values r.left
      go (Step.Field row) e ih = let (es, a) = ih row in (entry_at row left ∷ es, took row (stands form profile true seen values left row e) a)
      go (Step.NotAllowed row) e ih = ([], stay)
      go Step.Broken e ih = ([], stay)
      go Step.End e ih = ([], stay)

  run_walked : (seen : List Bool) (values left : List ℕ) → let r = run_from form profile seen values left in
      (es : List Entry) × Walked form profile seen values left es [] r.seen r.values r.left
  unfolding run_from
  run_walked seen values left = ran_walked (suc (length left)) seen values left

  -- on the way no row is forgotten
  walked_unseen : {s t : List Bool} {v l w m : List ℕ} {es : List Entry} {fs : List Fault} → Gathering form profile s v → Walked form profile s v l es fs t w m → unseen t ≤ unseen s
  walked_unseen g stay = omega arith
  walked_unseen {s} g (took row h a) = omega (arith, walked_unseen (taken_on form profile g h) a, one_less s row (there form profile g h) h.free.new)
  walked_unseen {s} g (told row h a) = omega (arith, walked_unseen (passed_on form profile g h) a, one_less s row (there form profile g h) h.free.new)

  -- what is kept, from some rows seen, values and bytes on
  pub record KeptWalk (seen : List Bool) (values left : List ℕ) (k : Kept) : Type 0 where
    pub es : List Entry
    pub fs : List Fault
    pub last : List Bool
    pub rest : List ℕ
    pub walk : Walked form profile seen values left es fs last k.values rest
    pub ends : ((step_at form profile last k.values rest ≡ Step.End) × (k.faults ≡ fs))
        ⊎ ((step_at form profile last k.values rest ≡ Step.Broken) × (k.faults ≡ fs ++ Fault.Broken (get_or rest 0 0) ∷ []))

  -- where one row less is not seen at each fault, the runs are enough
  pub kept_walk : (n : ℕ) (seen : List Bool) (values left : List ℕ) → Gathering form profile seen values → unseen seen < n
      → KeptWalk seen values left (kept_from form profile n seen values left)
  kept_walk zero seen values left g few = absurd (not-suc-le-zero few)
  kept_walk (suc n) seen values left g few = go (run_from form profile seen values left).step refl (λ s v l. kept_walk n s v l)
    where
      so : {k : Kept} → kept_from form profile (suc n) seen values left ≡ k → KeptWalk seen values left k → KeptWalk seen values left (kept_from form profile (suc n) seen values left)
      so e w = subst (KeptWalk seen values left) (sym e) w

      go : (s : Step) → (run_from form profile seen values left).step ≡ s
          → ((s : List Bool) (v l : List ℕ) → Gathering form profile s v → unseen s < n → KeptWalk s v l (kept_from form profile n s v l))
          → KeptWalk seen values left (kept_from form profile (suc n) seen values left)
      go (Step.Field row) e ih = absurd ((run_stopped form profile seen values left).no_field row e)
      go (Step.NotAllowed row) e ih =
          let (es, a) = run_walked seen values left in
          let h = behind_run form profile n seen values left false row e in
          let on = run_gathers form profile seen values left g in
          let r = run_from form profile seen values left in
          let less : unseen (seen_with row r.seen) + 1 ≡ unseen r.seen = one_less r.seen row (there form profile on h) h.free.new in
          let never : unseen r.seen ≤ unseen seen = walked_unseen g a in
          let k = ih (seen_with row r.seen) r.values (behind row r.left) (passed_on form profile on h) (omega arith) in
          so (kept_passed form profile n seen values left row g e)
          (record {
            es = es ++ entry_at row r.left ∷ k.es;
            fs = Fault.NotAllowed (get_or r.left 0 0) ∷ k.fs;
            last = k.last;
            rest = k.rest;
            walk = walked_on a (told row h k.walk);
            ends = ⊎_elim (λ x. inl (x.0, ap (λ (fs : List Fault). Fault.NotAllowed (get_or r.left 0 0) ∷ fs) x.1))
                (λ x. inr (x.0, ap (λ (fs : List Fault). Fault.NotAllowed (get_or r.left 0 0) ∷ fs) x.1)) k.ends;
          })
      go Step.Broken e ih =
          let (es, a) = run_walked seen values left in
          so (kept_step form profile n seen values left Step.Broken e)
          (record { es = es; fs = []; last = _; rest = _; walk = a; ends = inr ((run_stopped form profile seen values left).there ∙ e, refl) })
      go Step.End e ih =
          let (es, a) = run_walked seen values left in
          so (kept_step form profile n seen values left Step.End e)
          (record { es = es; fs = []; last = _; rest = _; walk = a; ends = inl ((run_stopped form profile seen values left).there ∙ e, refl) })

  -- a walk tells of no record that it is dropped
  pub none_dropped : {s t : List Bool} {v l w m : List ℕ} {es : List Entry} {fs : List Fault} → Walked form profile s v l es fs t w m → Memᴰ Fault.Dropped fs → ⊥
  none_dropped stay d = Memᴰ.not-nil d
  none_dropped (took row h a) d = none_dropped a d
  none_dropped (told row h a) d = ⊎_elim (λ e. let z : ◌≡◌ {A = ℕ} 0 1 = cc in omega arith) (λ m. none_dropped a m) (Memᴰ.cases_cons d)
