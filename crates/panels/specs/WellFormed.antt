-- Tables come only from the empty one by add, remove, images that are read or salvaged, and bursts. 01, "The settings": every
-- setting of every panel is in its allowed range at all times; 02, A1 and A6: in that of its own profile and kind, so that its
-- position is one of its wall.
use Rattle.std.specs.Prelude.{ℕ, ◌≤◌, ◌<◌, true, [], ◌∷◌, ◌≡◌, length}
use Rattle.settings.specs.Settings.{values_of, row_count, value_count}
use Rattle.models.specs.Models.{allowed_for}
use Rattle.packet.specs.declared.MonitorId.{MonitorId}
use Rattle.panels.specs.declared.Panel.{Panel}
use Rattle.panels.specs.declared.Table.{Table}
use Rattle.panels.specs.Wall.{Wall, model_of, table_of, panels_of, most_panels}

pub record GoodPanel (p : Panel) : Type 0 where
  pub named : p.id.0 ≡ 0 → ⊥
  pub grouped : p.group.0 ≡ 0 → ⊥
  pub full : length p.values ≡ value_count
  pub in_range : (row : ℕ) → row < row_count → allowed_for (model_of p) row (values_of row p.values) ≡ true

-- no panel has the ID
abbrev pub Absent : MonitorId → Wall → Type 0
Absent i [] = Unit {0}
Absent i (p ∷ w) = (p.id.0 ≡ i.0 → ⊥) × Absent i w

-- every panel is good, and no later one has its ID
abbrev pub GoodWall : Wall → Type 0
GoodWall [] = Unit {0}
GoodWall (p ∷ w) = GoodPanel p × Absent p.id w × GoodWall w

-- the table holds a good wall, and every other place is blank
pub record WellFormed (t : Table) : Type 0 where
  pub held : t ≡ table_of (panels_of t)
  pub few : length (panels_of t) ≤ most_panels
  pub good : GoodWall (panels_of t)
