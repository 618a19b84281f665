use mathlib.Core.Path.{◌≡◌}
use mathlib.Core.List.{[]}
use lib.ListN.{length, take, drop}
use Rattle.panels.specs.Wall.{in_places, id_count}
use Rattle.image_frame.specs.Frame.{form_of, records_in}
use Rattle.image_read.specs.Read.{read_records}
use Rattle.image_record.proofs.Heads.{Marks}
use Rattle.image_read.proofs.records.all.Given as goal

-- the answer is what the records from k on make of the table so far
abbrev pub invariant-loop-k : goal.invariant-loop-k
invariant-loop-k l =
    let w = take l.k l.places in
    (l.places ≡ in_places w) × (length l.seen ≡ id_count) × Marks l.seen w
    × (read_records (form_of l.frame) [] (records_in l.frame) ≡ read_records (form_of l.frame) w (drop l.k (records_in l.frame)))
