-- The index that every table has. 02, A8. In the paper's numbers: IDs and group bytes are below 256, and a table has 32 places for
-- panels, 0 to 31, so that 32 stands for none.
use Rattle.std.specs.Prelude.{ℕ, ◌≤◌, ◌<◌, ◌⊎◌, ◌≡◌, length, get_or}
use mathlib.Core.List.{filter}
use Rattle.std.proofs.Math.Decide.{ℕ_discrete}
use Rattle.panels.specs.declared.Panel.{Panel}
use Rattle.panels.specs.declared.Table.{Table}
use Rattle.panels.specs.Wall.{Wall, blank, panels_of}
use Rattle.demands.specs.Demand2.{Comes}

-- the wall has a panel at place k, and that panel has the ID
abbrev pub HasId : Wall → ℕ → ℕ → Type 0
HasId w id k = (k < length w) × ((get_or w k blank).id.0 ≡ id)

-- 02, A8: in every table that comes from the empty one by add, remove, images and bursts, for every ID the index has the place of the
-- panel with that ID, which is the only one; where there is none it has none,
abbrev pub PlaceKept : Type 0
PlaceKept =
    (t : Table) → Comes t → (id : ℕ) → id < 256
    → let w = panels_of t in
    let index = get_or t.places id 0 in
    (HasId w id index × ((k : ℕ) → HasId w id k → k ≡ index)) ⊎ ((index ≡ 32) × ((k : ℕ) → HasId w id k → ⊥))

-- and for every group byte the number of panels that have it.
abbrev pub MembersKept : Type 0
MembersKept =
    (t : Table) → Comes t → (group : ℕ) → group < 256
    → get_or t.members group 0 ≡ length (filter (λ (p : Panel). ℕ_discrete p.group.0 group) (panels_of t))

-- Each ID and each group byte has its entry and there is no other; and no panel is at place 32 or behind it.
abbrev pub IndexWhole : Type 0
IndexWhole = (t : Table) → Comes t → (length t.places ≡ 256) × (length t.members ≡ 256) × (length (panels_of t) ≤ 32)
