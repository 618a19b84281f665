-- The scene is the definition's, and its table is as long as the one before. Assumes nothing.
use Rattle.std.proofs.Common.{◌≡◌, ℕ, ◌+◌, ◌*◌, sym, ap, ap₂, subst, ◌∙◌}
use mathlib.Core.List.{[]}
use lib.ListN.{length}
use Rattle.std.proofs.lemmas.Result.{err_from_is_err_and}
use Rattle.lists.specs.Lists.{laid_over}
use Rattle.panels.specs.Wall.{Wall, panels_of}
use Rattle.panels.specs.WellFormed.{WellFormed}
use Rattle.panels.proofs.Laws.{panels_of_table}
use Rattle.image_forms.specs.declared.Form.{Form}
use Rattle.image_write.specs.Written.{setup_of, panel_size}
use Rattle.image_write.proofs.Losing.{two_holds}
use Rattle.batch.specs.Scene.{refusal_number, scene_of}
use Rattle.batch.proofs.Kept.{scene_formed, scene_count}
use Rattle.batch.proofs.Scenes.{refused_for, written_so, numbered_some}
use Rattle.undivarro.specs.declared.Outcome.{Outcome}
use Rattle.undivarro.specs.Calls.{After, refused}
use Rattle.undivarro.proofs.Batches.{list_refused, list_given}
use Rattle.undivarro.proofs.batching.played.Goals as goal

pub returns-in_err-answered : goal.returns-in_err-answered
returns-in_err-answered c =
    let a = c.args in
    let p = err_from_is_err_and c.from_residual.result c.from_residual.ensures.1 in
    let why = c.in_err-answered.field-0.0 in
    let number = ap refusal_number (refused_for (scene_of a.edition (panels_of a.t) a.list.now (length a.answers.now)) why (sym c.in_err-answered.was ∙ c.play_list.ensures.value)) in
    let e = list_refused a.edition (panels_of a.t) a.list.now a.answers.now a.out.now (λ z. numbered_some why (sym number ∙ z)) in
    record {
      value = rw (p.1, p.2) (ap (λ (n : ℕ). (refused n [] []).outcome) (sym number) ∙ ap (λ (r : After). r.outcome) e);
      answers_after = c.play_list.ensures.out_after ∙ ap (λ (r : After). r.answer) e;
      out_after = ap (λ (r : After). r.out) e;
    }

pub put_setup-written-requires : goal.put_setup-written-requires
put_setup-written-requires c =
    let a = c.args in
    let wall = ap panels_of c.play_list.ensures.table_after ∙ panels_of_table _ in
    let same = ap (λ (k : ℕ). panel_size Form.Two * k + 2) (ap length wall ∙ scene_count a.edition (panels_of a.t) a.list.now (length a.answers.now)) in
    (subst WellFormed (sym c.play_list.ensures.table_after) (scene_formed a.edition a.list.now (length a.answers.now) c.requires.0), two_holds _, rw same c.requires.1)

pub returns : goal.returns
returns c =
    let a = c.args in
    let put = c.put_setup-written.ensures in
    let wall = ap panels_of c.play_list.ensures.table_after ∙ panels_of_table _ in
    let (none, written) = written_so (scene_of a.edition (panels_of a.t) a.list.now (length a.answers.now)) c.in_ok-answered.answered (sym c.in_ok-answered.was ∙ c.play_list.ensures.value) in
    let e = list_given a.edition (panels_of a.t) a.list.now a.answers.now a.out.now (ap refusal_number none) in
    record {
      value = ap₂ {C = Outcome} (λ (n m : ℕ). record { refusal = 0; damage = 0; answered = n; written = m }) written (put.value ∙ ap (λ (w : Wall). length (setup_of Form.Two w)) wall)
          ∙ ap (λ (r : After). r.outcome) e;
      answers_after = c.play_list.ensures.out_after ∙ ap (λ (r : After). r.answer) e;
      out_after = put.out_after ∙ ap (λ (w : Wall). laid_over (setup_of Form.Two w) a.out.now) wall ∙ ap (λ (r : After). r.out) e;
    }
