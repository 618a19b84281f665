-- A wall is a list of panels; a table holds it in its places. 01, "The settings", "Table calls and numbers".
use Rattle.std.specs.Prelude.{ℕ, suc, ◌-◌, cond, List, [], ◌∷◌, ◌++◌, eqb, length, take, replicate, Option, Some, None, unwrap_or}
use Rattle.lists.specs.Lists.{each}
use Rattle.settings.specs.declared.Profile.{Profile}
use Rattle.tiling.specs.declared.Kind.{Kind}
use Rattle.tiling.specs.Kinds.{kind_number}
use Rattle.models.specs.declared.Model.{Model}
use Rattle.settings.specs.Settings.{fresh_values, values_of, values_with, value_count, kind_row, video_row}
use Rattle.models.specs.Models.{model_in}
use Rattle.profiles.specs.Video.{video_in}
use Rattle.packet.specs.declared.MonitorId.{MonitorId}
use Rattle.packet.specs.declared.GroupId.{GroupId}
use Rattle.packet.specs.Packet.{monitor_id, group_id}
use Rattle.profiles.specs.declared.Video.{Video}
use Rattle.panels.specs.declared.Panel.{Panel}
use Rattle.panels.specs.declared.Table.{Table}

abbrev pub Wall : Type 0
Wall = List Panel

-- how many panels a table has places for
abbrev pub most_panels : ℕ
most_panels = 32

-- an ID is a byte, and so is a group
abbrev pub id_count : ℕ
id_count = 256

abbrev pub group_count : ℕ
group_count = 256

-- a panel before anything is set; 02, A1 and A6: profile and kind are given when it is added
abbrev pub fresh_panel : MonitorId → GroupId → Profile → Kind → Panel
fresh_panel i g profile kind =
    record { id = i; group = g; profile = profile; values = values_with kind_row (kind_number kind ∷ []) (fresh_values profile) }

-- what its ranges go by
abbrev pub model_of : Panel → Model
model_of p = model_in p.profile p.values

-- a Phoenix panel's video, with its tint's sign; of another panel nothing is said
abbrev pub video_by : Profile → List ℕ → Option Video
video_by Profile.General values = None
video_by Profile.Phoenix values = Some (video_in (values_of video_row values))

unfoldable pub video_of : Panel → Option Video
video_of p = video_by p.profile p.values

-- what stands in a place that no panel has
unfoldable pub blank : Panel
blank = record { id = monitor_id 0; group = group_id 0; profile = Profile.General; values = replicate value_count 0 }

-- a wall in the places of a table
unfoldable pub in_places : Wall → List Panel
in_places w = w ++ replicate (most_panels - length w) blank

-- the place of the first panel, counted from k, that has the ID
unfoldable pub place_from : MonitorId → ℕ → Wall → Option ℕ
place_from i k [] = None
place_from i k (p ∷ w) = cond (eqb p.id.0 i.0) (Some k) (place_from i (suc k) w)

abbrev pub place_of : MonitorId → Wall → Option ℕ
place_of i w = place_from i 0 w

-- 02, A8: how many panels are in a group
unfoldable pub members_of : GroupId → Wall → ℕ
members_of g [] = 0
members_of g (p ∷ w) = cond (eqb p.group.0 g.0) (suc (members_of g w)) (members_of g w)

-- a place as the index has it: past the last where there is none
abbrev pub place_number : Option ℕ → ℕ
place_number place = unwrap_or place most_panels

-- the table that holds a wall, with the index: the place of each ID, and the members of each group
unfoldable pub table_of : Wall → Table
table_of w = record {
  panels = in_places w;
  places = each (λ i. place_number (place_of (monitor_id i) w)) id_count;
  members = each (λ g. members_of (group_id g) w) group_count;
  count = length w;
}

abbrev pub panels_of : Table → Wall
panels_of t = take t.count t.panels
