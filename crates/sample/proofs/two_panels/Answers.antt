use mathlib.Core.Path.{◌≡◌, refl, sym, ap, subst, ◌∙◌}
use Rattle.std.specs.Prelude.{Result}
use Rattle.settings.specs.Profiles.{profile_with}
use Rattle.tiling.specs.Kinds.{kind_with}
use Rattle.packet.specs.Packet.{monitor_id, group_id}
use Rattle.panels.specs.declared.Table.{Table}
use Rattle.panels.specs.Wall.{table_of, panels_of, place_from}
use Rattle.panels.specs.WellFormed.{WellFormed}
use Rattle.panels.proofs.Formed.{empty_formed}
use Rattle.table_calls.specs.declared.Refusal.{Refusal}
use Rattle.table_calls.specs.Calls.{unless, add_refusal, added}
use Rattle.table_calls.proofs.Formed.{Adds, adds}
use Rattle.answers.specs.Sample.{two_panels}
use Rattle.sample.proofs.First.{first, one}
use Rattle.sample.proofs.two_panels.Goals as goal

-- Panels 1 and 2 are added to the empty table. Assumes nothing.
two : {r : Result Unit Refusal} {t u : Table} → WellFormed t → panels_of t ≡ first → r ≡ unless (add_refusal (panels_of t) (monitor_id 2) (group_id 9) 0 0) tt
    → u ≡ table_of (added (panels_of t) (monitor_id 2) (group_id 9) 0 0) → Adds r u two_panels
unfolding added add_refusal place_from profile_with kind_with two_panels
two f e answer table = adds (monitor_id 2) (group_id 9) 0 0 f e refl refl answer table

pub add-requires : goal.add-requires
add-requires c = subst WellFormed (sym c.empty_table-wall.ensures) empty_formed

pub unwrap-requires : goal.unwrap-requires
unwrap-requires c = (one c.empty_table-wall.ensures c.add.ensures.answer c.add.ensures.table).answered

pub add-requires-2 : goal.add-requires-2
add-requires-2 c = (one c.empty_table-wall.ensures c.add.ensures.answer c.add.ensures.table).formed

pub unwrap-requires-2 : goal.unwrap-requires-2
unwrap-requires-2 c =
    let a = one c.empty_table-wall.ensures c.add.ensures.answer c.add.ensures.table in
    (two a.formed a.holds c.add-2.ensures.answer c.add-2.ensures.table).answered

pub returns : goal.returns
returns c =
    let a = one c.empty_table-wall.ensures c.add.ensures.answer c.add.ensures.table in
    let both = two a.formed a.holds c.add-2.ensures.answer c.add-2.ensures.table in
    (both.formed.held ∙ ap table_of both.holds, both.formed)
