-- The packet reader finds a request's packet intact, with the request's ID, group and data. Assumes nothing.
use mathlib.Core.Path.{◌≡◌, ap, ◌∙◌}
use Prim.Native.Nat.{◌≤◌}
use native.Mathlib.Omega.{arith}
use borrow.Author.Tests.{leb-true}
use lib.Dec.{leb}
use lib.ListN.{length, length-take}
use mathlib.Core.Bool.{true}
use Rattle.settings.specs.Settings.{most_values}
use Rattle.lists.proofs.Both.{both}
use Rattle.packet.specs.declared.Edition.{Edition}
use Rattle.packet.specs.declared.GroupId.{GroupId}
use Rattle.packet.specs.declared.Verdict.{Verdict}
use Rattle.packet.specs.Edition.{carries}
use Rattle.packet.specs.Packet.{most_data}
use Rattle.packet.specs.Reading.{reading_of}
use Rattle.packet.proofs.EachEdition.{head_few, carried}
use Rattle.packet.proofs.Packets.{packet_verdict, packet_data_lem}
use Rattle.requests.specs.declared.Request.{Request}
use Rattle.requests.specs.Request.{request_data, request_packet, is_request}

pub packet_reads : (edition : Edition) (r : Request) → is_request edition r ≡ true
    → let reading = reading_of edition (request_packet edition r) in
    (reading.verdict ≡ Verdict.Intact r.id r.group (length (request_data r))) × (reading.part ≡ request_data r)
unfolding request_packet is_request
packet_reads edition r taken =
    let seven = leb-true r.count most_values (both _ _ taken).0 in
    let short : length (request_data r) ≤ most_data edition = simp length-take (omega (arith, head_few edition)) in
    let group = carried edition r.group (both (carries edition r.group) _ (both (leb r.count most_values) _ taken).1).0 in
    (packet_verdict edition r.id r.group (request_data r) short ∙ ap (λ (g : GroupId). Verdict.Intact r.id g (length (request_data r))) group, packet_data_lem edition r.id r.group (request_data r) short)
