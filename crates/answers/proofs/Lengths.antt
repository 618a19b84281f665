-- How many bytes went out, and how many they are at most. Assumes nothing.
use Prim.Native.Nat.{ℕ, ◌≤◌}
use mathlib.Core.Path.{◌≡◌}
use native.Mathlib.Omega.{arith}
use lib.ListN.{length, take, length-take}
use Rattle.packet.specs.declared.Edition.{Edition}
use Rattle.packet.specs.Packet.{group_id}
use Rattle.packet.specs.Control.{control_data}
use Rattle.packet.proofs.EachEdition.{head_few}
use Rattle.packet.proofs.Packets.{packet_length}
use Rattle.answers.specs.declared.Answer.{Answer}
use Rattle.answers.specs.declared.Reply.{Reply}
use Rattle.std.specs.Prelude.{Option, Some, None}
use Rattle.answers.specs.Reply.{sent_by, sent_bytes, most_reported}

abbrev pub bytes_sent : Option ℕ → ℕ
bytes_sent (Some n) = n
bytes_sent None = 0

-- a report has at most 8 data bytes
pub sent-few : (edition : Edition) (r : Reply) → length r.bytes ≡ most_reported → length (sent_bytes edition r) ≤ 12
unfolding sent_bytes
sent-few edition r n = go r.answer
  where
    go : (a : Answer) → length (sent_by edition a r.id (take r.count r.bytes)) ≤ 12
    go Answer.Silence = omega arith
    go (Answer.Word c) = omega (arith, head_few edition, packet_length edition r.id (group_id 0) (control_data c) (omega (arith, head_few edition)))
    go Answer.Report =
        let d = take r.count r.bytes in
        let few : length d ≤ most_reported = simp length-take (omega arith) in
        omega (arith, head_few edition, packet_length edition r.id (group_id 0) d (omega (arith, head_few edition)))
