-- Two panels are added to the empty table, and each packet keeps it well-formed. Assumes nothing.
use Rattle.std.proofs.Common.{◌≡◌, refl, sym, subst, Result}
use Rattle.settings.specs.declared.Profile.{Profile}
use Rattle.settings.specs.Profiles.{profile_with}
use Rattle.tiling.specs.declared.Kind.{Kind}
use Rattle.tiling.specs.Kinds.{kind_with}
use mathlib.Core.List.{◌∷◌, [], ◌++◌}
use Rattle.packet.specs.Packet.{monitor_id, group_id}
use Rattle.panels.specs.declared.Table.{Table}
use Rattle.panels.specs.Wall.{fresh_panel, table_of, panels_of, place_from}
use Rattle.panels.specs.WellFormed.{WellFormed}
use Rattle.panels.proofs.Formed.{empty_formed}
use Rattle.table_calls.specs.declared.Refusal.{Refusal}
use Rattle.table_calls.specs.Calls.{unless, add_refusal, added}
use Rattle.table_calls.proofs.Formed.{Adds, adds}
use Rattle.sample.proofs.First.{first, one}
use Rattle.mixed_wall.proofs.run.Goals as goal

-- panel 2, Phoenix and of the 15 by 10 kind
two : {r : Result Unit Refusal} {t u : Table} → WellFormed t → panels_of t ≡ first → r ≡ unless (add_refusal (panels_of t) (monitor_id 2) (group_id 9) 1 1) tt
    → u ≡ table_of (added (panels_of t) (monitor_id 2) (group_id 9) 1 1)
    → Adds r u (first ++ fresh_panel (monitor_id 2) (group_id 9) Profile.Phoenix Kind.FifteenByTen ∷ [])
unfolding added add_refusal place_from profile_with kind_with
two f e answer table = adds (monitor_id 2) (group_id 9) 1 1 f e refl refl answer table

pub add-requires : goal.add-requires
add-requires g c = subst WellFormed (sym c.empty_table-wall.ensures) empty_formed

pub unwrap-requires : goal.unwrap-requires
unwrap-requires g c = (one c.empty_table-wall.ensures c.add.ensures.answer c.add.ensures.table).answered

pub add-requires-2 : goal.add-requires-2
add-requires-2 g c = (one c.empty_table-wall.ensures c.add.ensures.answer c.add.ensures.table).formed

pub unwrap-requires-2 : goal.unwrap-requires-2
unwrap-requires-2 g c =
    let a = one c.empty_table-wall.ensures c.add.ensures.answer c.add.ensures.table in
    (two a.formed a.holds c.add-2.ensures.answer c.add-2.ensures.table).answered

pub send-requires : goal.send-requires
send-requires g c =
    let a = one c.empty_table-wall.ensures c.add.ensures.answer c.add.ensures.table in
    (two a.formed a.holds c.add-2.ensures.answer c.add-2.ensures.table).formed
