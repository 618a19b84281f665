use mathlib.Core.Path.{◌≡◌, refl, sym, ap, ◌∙◌}
use mathlib.Core.Bool.{Bool, false≢true}
use mathlib.Core.List.{List}
use Prim.Native.Nat.{ℕ, ◌-◌}
use native.Mathlib.Omega.{arith}
use lib.ListN.{length, take, drop, length-drop}
use lib.Seq.{take_all}
use Rattle.std.specs.Prelude.{Option, Some, None, Result, Ok, Err, is_ok, ok_or}
use Rattle.std.specs.Result.{result_ok}
use Rattle.std.proofs.lemmas.Result.{err_from_is_err_and}
use Rattle.settings.specs.declared.Profile.{Profile}
use Rattle.image_forms.specs.declared.Form.{Form}
use Rattle.image_forms.specs.Forms.{head_size}
use Rattle.image_forms.proofs.Laws.{head_some}
use Rattle.refusals.specs.declared.Refusal.{Refusal}
use Rattle.refusals.specs.Refusals.{if_sound}
use Rattle.image_record.specs.Head.{head_in, headed}
use Rattle.image_record.proofs.Heads.{head-whole}
use Rattle.image_read.specs.Fields.{fields_in}
use Rattle.image_read.specs.Read.{panel_in}
use Rattle.image_read.proofs.records.panel_of.Goals as goal

-- what was not there
not_there : {A E : Type 0} (o : Option A) (e : E) {d : E} → ok_or o e ≡ Err d → (o ≡ None) × (e ≡ d)
not_there {E} None e {d} h = let same : Err e ≡ Err d = h in (refl, cc)
not_there (Some x) e h = absurd (false≢true (sym (ap is_ok h)))

module _ (form : Form) (seen : ℕ → Bool) (bytes : List ℕ) where
  no_head : head_in form seen bytes ≡ None → panel_in form seen bytes ≡ Err Refusal.Record
  unfolding panel_in
  no_head h = rw h

  -- by what its fields come to, behind a head of n bytes
  with_head : {profile : Profile} (n : ℕ) {r : Result (List ℕ) Refusal} → head_in form seen bytes ≡ Some profile → n ≡ head_size form
      → r ≡ fields_in form profile (take (length bytes - n) (drop n bytes)) → panel_in form seen bytes ≡ if_sound r (λ values. Ok (headed bytes profile values))
  unfolding panel_in
  with_head {profile} n {r} h e f =
      let all : take (length bytes - n) (drop n bytes) ≡ drop n bytes = take_all (length bytes - n) (drop n bytes) (rw length-drop (omega arith)) in
      let fields : r ≡ fields_in form profile (drop (head_size form) bytes) = f ∙ ap (fields_in form profile) all ∙ rw e in
      rw (h, fields)

pub returns-in_err-profile : goal.returns-in_err-profile
returns-in_err-profile c =
    let p = err_from_is_err_and c.from_residual.result c.from_residual.ensures.1 in
    let (none, why) = not_there c.head_in.result Refusal.Record (sym c.ok_or.ensures.value ∙ c.in_err-profile.was) in
    rw (p.1, p.2, ← why) (sym (no_head _ _ _ (sym c.head_in.ensures ∙ none)))

pub slice_bounds-fields_of-count : goal.slice_bounds-fields_of-count
slice_bounds-fields_of-count c =
    let head = sym c.head_in.ensures ∙ c.ok_or.ensures.ok_part ∙ ap result_ok c.in_ok-profile.was in
    omega (arith, c.head_size.ensures, head-whole _ _ _ _ head)

pub slice_bounds-fields_of-start : goal.slice_bounds-fields_of-start
slice_bounds-fields_of-start c =
    let head = sym c.head_in.ensures ∙ c.ok_or.ensures.ok_part ∙ ap result_ok c.in_ok-profile.was in
    omega (arith, c.head_size.ensures, head-whole _ _ _ _ head)

pub returns-in_err-values : goal.returns-in_err-values
returns-in_err-values c =
    let p = err_from_is_err_and c.from_residual-in_err-values.result c.from_residual-in_err-values.ensures.1 in
    let head = sym c.head_in.ensures ∙ c.ok_or.ensures.ok_part ∙ ap result_ok c.in_ok-profile.was in
    rw (p.1, p.2) (sym (with_head _ _ _ c.head_size.result head c.head_size.ensures (sym c.in_err-values.was ∙ c.fields_of.ensures)))

pub bounds-bytes-0 : goal.bounds-bytes-0
bounds-bytes-0 c =
    let head = sym c.head_in.ensures ∙ c.ok_or.ensures.ok_part ∙ ap result_ok c.in_ok-profile.was in
    omega (arith, head-whole _ _ _ _ head, head_some c.args.form)

pub bounds-bytes-1 : goal.bounds-bytes-1
bounds-bytes-1 c =
    let head = sym c.head_in.ensures ∙ c.ok_or.ensures.ok_part ∙ ap result_ok c.in_ok-profile.was in
    omega (arith, head-whole _ _ _ _ head, head_some c.args.form)

pub returns : goal.returns
returns c =
    let head = sym c.head_in.ensures ∙ c.ok_or.ensures.ok_part ∙ ap result_ok c.in_ok-profile.was in
    sym (with_head _ _ _ c.head_size.result head c.head_size.ensures (sym c.in_ok-values.was ∙ c.fields_of.ensures))
