-- What bursts one after the other keep of a table. Assumes nothing.
use Prim.Native.Nat.{ℕ}
use mathlib.Core.List.{List, [], ◌∷◌}
use mathlib.Core.Path.{◌≡◌, refl, subst, ◌∙◌}
use lib.ListN.{length}
use Rattle.packet.specs.declared.Edition.{Edition}
use Rattle.packet.specs.Reading.{reading_of}
use Rattle.panels.specs.declared.Table.{Table}
use Rattle.panels.specs.Wall.{Wall, table_of, panels_of}
use Rattle.panels.specs.WellFormed.{WellFormed}
use Rattle.panels.proofs.Laws.{panels_of_table}
use Rattle.answers.specs.Played.{played}
use Rattle.answers.specs.Session.{by_burst, session}
use Rattle.answers.proofs.Formed.{answered-count, answered_formed}
use Rattle.std.specs.Prelude.{Option, Some, None}
use Rattle.batch.specs.declared.Refusal.{Refusal}
use Rattle.batch.specs.Scene.{refusal_of, scene_by, scene_of}

session_formed : (edition : Edition) (bursts : List (List ℕ)) {t : Table} → WellFormed t → WellFormed (table_of (session edition (panels_of t) bursts).wall)
unfolding by_burst
session_formed edition [] f = subst WellFormed f.held f
session_formed edition (b ∷ bs) {t} f =
    subst (λ (w : Wall). WellFormed (table_of (session edition w bs).wall)) (panels_of_table (played edition (panels_of t) b).wall)
    (session_formed edition bs (answered_formed f (reading_of edition b)))

session-count : (edition : Edition) (bursts : List (List ℕ)) (w : Wall) → length (session edition w bursts).wall ≡ length w
unfolding by_burst
session-count edition [] w = refl
session-count edition (b ∷ bs) w = session-count edition bs (played edition w b).wall ∙ answered-count w (reading_of edition b)

pub scene_formed : (edition : Edition) (list : List ℕ) (room : ℕ) {t : Table} → WellFormed t → WellFormed (table_of (scene_of edition (panels_of t) list room).wall)
unfolding scene_of
scene_formed edition list room {t} f = go (refusal_of list room) _
  where
    go : (r : Option Refusal) (bursts : List (List ℕ)) → WellFormed (table_of (scene_by r edition (panels_of t) bursts).wall)
    go None bursts = session_formed edition bursts f
    go (Some r) bursts = subst WellFormed f.held f

pub scene_count : (edition : Edition) (w : Wall) (list : List ℕ) (room : ℕ) → length (scene_of edition w list room).wall ≡ length w
unfolding scene_of
scene_count edition w list room = go (refusal_of list room) _
  where
    go : (r : Option Refusal) (bursts : List (List ℕ)) → length (scene_by r edition w bursts).wall ≡ length w
    go None bursts = session-count edition bursts w
    go (Some r) bursts = refl
