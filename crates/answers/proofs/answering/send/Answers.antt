-- The packet fits, so it is written. Assumes nothing.
use mathlib.Core.Path.{◌≡◌, ap, ◌∙◌}
use mathlib.Core.List.{List}
use Prim.Native.Nat.{ℕ, ◌+◌, ◌≤◌}
use lib.ListN.{length}
use Rattle.std.specs.Prelude.{Result, Ok, Err, Option, Some, None}
use Rattle.packet.specs.declared.Edition.{Edition}
use Rattle.packet.specs.declared.MonitorId.{MonitorId}
use Rattle.packet.specs.declared.WriteError.{WriteError}
use Rattle.packet.specs.Packet.{group_id, shortest, longest, most_data, written_of}
use Rattle.packet.proofs.Packets.{packet_written_lem, packet_laid}
use Rattle.answers.proofs.answering.send.Goals as goal

-- what the match makes of it
abbrev passed_on : Result ℕ WriteError → Option ℕ
passed_on (Ok n) = Some n
passed_on (Err e) = None

written : (edition : Edition) (out d : List ℕ) (id : MonitorId) (w : Result ℕ WriteError) → longest ≤ length out → length d ≤ most_data edition
    → w ≡ written_of edition out d → passed_on w ≡ Some (length d + shortest edition)
written edition out d id w room fits e = ap passed_on (e ∙ packet_written_lem edition out id (group_id 0) d room fits)

pub returns-in-Ok-clause-value : goal.returns-in-Ok-clause-value
returns-in-Ok-clause-value c = written _ _ _ c.args.id _ c.requires.0 c.requires.1 c.in-Ok.ensures.value

pub returns-in-Ok-clause-out_after : goal.returns-in-Ok-clause-out_after
returns-in-Ok-clause-out_after c = c.write_packet.ensures.out_after ∙ packet_laid _ _ _ _ _ c.requires.0 c.requires.1

pub returns-in-Err-clause-value : goal.returns-in-Err-clause-value
returns-in-Err-clause-value c = written _ _ _ c.args.id _ c.requires.0 c.requires.1 c.in-Err.ensures.value

pub returns-in-Err-clause-out_after : goal.returns-in-Err-clause-out_after
returns-in-Err-clause-out_after c = c.write_packet.ensures.out_after ∙ packet_laid _ _ _ _ _ c.requires.0 c.requires.1
