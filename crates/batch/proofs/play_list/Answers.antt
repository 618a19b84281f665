-- A list that is not refused is whole, and there is room; on a refusal nothing changes. Assumes nothing.
use Rattle.std.proofs.Common.{◌≡◌, List, ℕ, length, Some, Ok, Result, sym, ap, ◌∙◌, arith}
use mathlib.Core.List.{[]}
use Rattle.lists.specs.Lists.{laid_over}
use Rattle.bursts.specs.Left.{bursts_left}
use Rattle.bursts.proofs.Lists.{made_whole, made_none}
use Rattle.packet.specs.declared.Edition.{Edition}
use Rattle.panels.specs.declared.Table.{Table}
use Rattle.panels.specs.Wall.{panels_of, table_of}
use Rattle.batch.specs.declared.Refusal.{Refusal}
use Rattle.batch.specs.Scene.{Scene, scene_of, played_out, written_of}
use Rattle.batch.proofs.Scenes.{taken_whole, no_room, cut_refused, scene_played, scene_refused}
use Rattle.batch.proofs.play_list.Goals as goal
use Rattle.batch.proofs.play_list.Goals.{In_default, Then-out-len, Else-out-len}

module _ (edition : Edition) (t : Table) (list out : List ℕ) where
  abbrev scene : Scene
  scene = scene_of edition (panels_of t) list (length out)

-- a list that stops inside a burst
cut : (c : In_default) → scene c.args.edition c.args.t.now c.args.list.now c.args.out.now ≡ record { wall = panels_of c.args.t.now; answers = []; refusal = Some Refusal.Cut }
cut c = scene_refused _ _ _ _ (cut_refused _ _ (made_none c.args.list.now c.of.ensures c.in_default.is))

-- an output without room for each
small : (c : Then-out-len) → scene c.args.edition c.args.t.now c.args.list.now c.args.out.now ≡ record { wall = panels_of c.args.t.now; answers = []; refusal = Some Refusal.NoRoom }
small c =
    let (whole, left) = made_whole c.args.list.now c.of.ensures c.in-Some.bursts c.in-Some.is in
    scene_refused _ _ _ _ (no_room _ _ whole (omega (arith, c.len.ensures, ap {B = ℕ} length left)))

-- all bursts played
all : (c : Else-out-len) → scene c.args.edition c.args.t.now c.args.list.now c.args.out.now ≡ played_out c.args.edition (panels_of c.args.t.now) (bursts_left c.in-Some.bursts)
all c =
    let (whole, left) = made_whole c.args.list.now c.of.ensures c.in-Some.bursts c.in-Some.is in
    scene_played _ _ _ _ (taken_whole _ _ whole (omega (arith, c.len.ensures, ap {B = ℕ} length left)))
    ∙ ap (λ (l : List (List ℕ)). played_out c.args.edition (panels_of c.args.t.now) l) (sym left)

pub returns-in_default-clause-value : goal.returns-in_default-clause-value
returns-in_default-clause-value c = sym (ap written_of (cut (goal.at.returns-in_default-clause-value c).In_default))

pub returns-in_default-clause-table_after : goal.returns-in_default-clause-table_after
returns-in_default-clause-table_after c = c.requires.held ∙ sym (ap (λ (s : Scene). table_of s.wall) (cut (goal.at.returns-in_default-clause-table_after c).In_default))

pub returns-in_default-clause-out_after : goal.returns-in_default-clause-out_after
unfolding laid_over
returns-in_default-clause-out_after c = sym (ap (λ (s : Scene). laid_over s.answers c.args.out.now) (cut (goal.at.returns-in_default-clause-out_after c).In_default))

pub returns-then-out-len-clause-value : goal.returns-then-out-len-clause-value
returns-then-out-len-clause-value c = sym (ap written_of (small (goal.at.returns-then-out-len-clause-value c).Then-out-len))

pub returns-then-out-len-clause-table_after : goal.returns-then-out-len-clause-table_after
returns-then-out-len-clause-table_after c = c.requires.held ∙ sym (ap (λ (s : Scene). table_of s.wall) (small (goal.at.returns-then-out-len-clause-table_after c).Then-out-len))

pub returns-then-out-len-clause-out_after : goal.returns-then-out-len-clause-out_after
unfolding laid_over
returns-then-out-len-clause-out_after c = sym (ap (λ (s : Scene). laid_over s.answers c.args.out.now) (small (goal.at.returns-then-out-len-clause-out_after c).Then-out-len))

pub returns-clause-value : goal.returns-clause-value
returns-clause-value c = ap {B = Result ℕ Refusal} Ok c.play_all.ensures.value ∙ sym (ap written_of (all (goal.at.returns-clause-value c).Else-out-len))

pub returns-clause-table_after : goal.returns-clause-table_after
returns-clause-table_after c = c.play_all.ensures.table_after ∙ sym (ap (λ (s : Scene). table_of s.wall) (all (goal.at.returns-clause-table_after c).Else-out-len))

pub returns-clause-out_after : goal.returns-clause-out_after
returns-clause-out_after c = c.play_all.ensures.out_after ∙ sym (ap (λ (s : Scene). laid_over s.answers c.args.out.now) (all (goal.at.returns-clause-out_after c).Else-out-len))
