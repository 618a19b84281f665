-- What is kept is in range, and each panel that is kept is good behind the wall. Assumes nothing.
use mathlib.Core.Path.{◌≡◌, refl, sym, ap, subst}
use mathlib.Core.Bool.{Bool, true, false, cond, false≢true}
use mathlib.Core.List.{List, [], ◌∷◌, ◌++◌}
use Prim.Native.Nat.{ℕ, zero, suc, ◌+◌, ◌≤◌}
use native.Mathlib.Omega.{arith}
use lib.ListN.{length, drop, length-append}
use Rattle.std.specs.Prelude.{Option, Some, None, Result, Ok, Err, is_ok}
use Rattle.std.specs.Result.{result_unwrap_or}
use Rattle.refusals.specs.declared.Refusal.{Refusal}
use Rattle.refusals.specs.Refusals.{if_sound}
use Rattle.image_salvage.specs.declared.Salvaged.{Salvaged}
use Rattle.settings.specs.declared.Profile.{Profile}
use Rattle.panels.specs.Wall.{Wall, table_of, most_panels}
use Rattle.panels.specs.WellFormed.{GoodWall, WellFormed}
use Rattle.panels.proofs.Formed.{formed, empty_formed}
use Rattle.panels.proofs.Values.{InRange}
use Rattle.image_forms.specs.declared.Form.{Form}
use Rattle.image_forms.specs.Forms.{head_size}
use Rattle.image_faults.specs.declared.Fault.{Fault}
use Rattle.image_frame.specs.Frame.{form_of, records_in, frame_of}
use Rattle.image_frame.proofs.Edges.{sound, record_count}
use Rattle.image_record.specs.declared.Step.{Step}
use Rattle.image_record.specs.Head.{id_in, head_in, headed}
use Rattle.image_record.specs.Run.{run_from}
use Rattle.image_record.proofs.Gathering.{Gathering, none_gathered, passed_on}
use Rattle.image_record.proofs.Runs.{run_gathers}
use Rattle.image_record.proofs.Heads.{headed-good}
use Rattle.image_salvage.specs.Kept.{Kept, kept_from, kept_of, most_faults}
use Rattle.image_salvage.specs.Salvaged.{Salvage, behind_faults, salvaged_from, salvage_of, told_as, salvaged_as}
use Rattle.image_salvage.proofs.Walk.{kept_step, kept_passed, behind_run}

module _ (form : Form) (profile : Profile) where
  -- the values that a walk comes to
  abbrev Ranged : ℕ → List Bool → List ℕ → List ℕ → Type 0
  Ranged n seen values left = InRange profile (kept_from form profile n seen values left).values

  ranged : (n : ℕ) (seen : List Bool) (values left : List ℕ) {k : Kept} → kept_from form profile n seen values left ≡ k → InRange profile k.values → Ranged n seen values left
  ranged n seen values left e i = subst (λ (k : Kept). InRange profile k.values) (sym e) i

  from_in_range : (n : ℕ) (seen : List Bool) (values left : List ℕ) → Gathering form profile seen values → Ranged n seen values left
  unfolding kept_from
  from_in_range zero seen values left g = g.in_range
  from_in_range (suc n) seen values left g = go (run_from form profile seen values left).step refl (from_in_range n)
    where
      on : Gathering form profile (run_from form profile seen values left).seen (run_from form profile seen values left).values
      on = run_gathers form profile seen values left g

      go : (s : Step) → (run_from form profile seen values left).step ≡ s
          → ((seen : List Bool) (values left : List ℕ) → Gathering form profile seen values → Ranged n seen values left) → Ranged (suc n) seen values left
      go (Step.Field row) e ih = ranged (suc n) seen values left (kept_step form profile n seen values left (Step.Field row) e) on.in_range
      go (Step.NotAllowed row) e ih =
          ranged (suc n) seen values left (kept_passed form profile n seen values left row g e)
          (ih _ _ _ (passed_on form profile on (behind_run form profile n seen values left false row e)))
      go Step.Broken e ih = ranged (suc n) seen values left (kept_step form profile n seen values left Step.Broken e) on.in_range
      go Step.End e ih = ranged (suc n) seen values left (kept_step form profile n seen values left Step.End e) on.in_range

  pub kept_in_range : (left : List ℕ) → InRange profile (kept_of form profile left).values
  kept_in_range left = from_in_range most_faults _ _ left (none_gathered form profile)

-- a record is dropped or kept
pub record_dropped : (form : Form) (w : Wall) (bytes : List ℕ) (records : List (List ℕ)) → head_in form (id_in w) bytes ≡ None
    → salvaged_from form w (bytes ∷ records) ≡ behind_faults (Fault.Dropped ∷ []) (salvaged_from form w records)
unfolding salvaged_from
record_dropped form w bytes records e = rw e

pub record_kept : (form : Form) (w : Wall) (bytes : List ℕ) (records : List (List ℕ)) (profile : Profile) → head_in form (id_in w) bytes ≡ Some profile
    → let kept = kept_of form profile (drop (head_size form) bytes) in
    salvaged_from form w (bytes ∷ records) ≡ behind_faults kept.faults (salvaged_from form (w ++ headed bytes profile kept.values ∷ []) records)
unfolding salvaged_from
record_kept form w bytes records profile e = rw e

pub kept-good : (form : Form) (w : Wall) (bytes : List ℕ) (profile : Profile) → head_in form (id_in w) bytes ≡ Some profile → GoodWall w
    → GoodWall (w ++ headed bytes profile (kept_of form profile (drop (head_size form) bytes)).values ∷ [])
kept-good form w bytes profile e good = headed-good form w bytes profile e (kept_in_range form profile (drop (head_size form) bytes)) good

abbrev Formed : Form → Wall → List (List ℕ) → Type 0
Formed form w records = WellFormed (table_of (salvaged_from form w records).wall)

from_formed : (form : Form) (w : Wall) (records : List (List ℕ)) → length w + length records ≤ most_panels → GoodWall w → Formed form w records
unfolding salvaged_from
from_formed form w [] few good = formed w (omega arith) good
from_formed form w (bytes ∷ records) few good = go (head_in form (id_in w) bytes) refl (λ v. from_formed form v records)
  where
    so : {s : Salvage} → salvaged_from form w (bytes ∷ records) ≡ s → WellFormed (table_of s.wall) → Formed form w (bytes ∷ records)
    so e f = subst (λ (s : Salvage). WellFormed (table_of s.wall)) (sym e) f

    go : (n : Option Profile) → head_in form (id_in w) bytes ≡ n → ((v : Wall) → length v + length records ≤ most_panels → GoodWall v → Formed form v records)
        → Formed form w (bytes ∷ records)
    go (Some profile) e ih = so (record_kept form w bytes records profile e) (ih _ (simp length-append (omega arith)) (kept-good form w bytes profile e good))
    go None e ih = so (record_dropped form w bytes records e) (ih w (omega arith) good)

-- Whatever the image, what is kept of it is well-formed.
pub salvage_formed : (image : List ℕ) → WellFormed (table_of (salvage_of image).wall)
unfolding salvage_of
salvage_formed image = go (is_ok (frame_of image)) refl
  where
    go : (t : Bool) → is_ok (frame_of image) ≡ t → WellFormed (table_of (cond t (salvaged_from (form_of image) [] (records_in image)) (record { wall = []; faults = [] })).wall)
    go true e = from_formed (form_of image) [] (records_in image) (omega (arith, record_count image, (sound image e).0.few)) tt
    go false e = empty_formed

-- what is told of an image that is not refused
pub salvaged_is : (image : List ℕ) {s : Salvaged} → salvaged_as image ≡ Ok s → s ≡ told_as (salvage_of image)
salvaged_is image {s} e = go (frame_of image) e
  where
    go : (f : Result (List ℕ) Refusal) → if_sound f (λ frame. Ok (told_as (salvage_of image))) ≡ Ok s → s ≡ told_as (salvage_of image)
    go (Ok frame) e = sym (ap (λ (r : Result Salvaged Refusal). result_unwrap_or r s) e)
    go (Err r) e = absurd (false≢true (ap is_ok e))

pub table_formed : (image : List ℕ) {s : Salvaged} → salvaged_as image ≡ Ok s → WellFormed s.table
table_formed image e = subst WellFormed (sym (ap (λ (r : Salvaged). r.table) (salvaged_is image e))) (salvage_formed image)
