use mathlib.Core.Path.{◌≡◌}
use lib.ListN.{take}
use Rattle.panels.proofs.Index.{places_from, members_from}
use Rattle.panels.proofs.table_of.Given as goal

-- The invariant: the index has the panels from place k on. Assumes nothing.
abbrev pub invariant-loop-k : goal.invariant-loop-k
invariant-loop-k l =
    (l.places ≡ places_from l.k (take l.count l.panels)) × (l.members ≡ members_from l.k (take l.count l.panels))
