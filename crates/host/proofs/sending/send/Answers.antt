use mathlib.Core.Path.{◌≡◌, sym, ap, ◌∙◌}
use Prim.Native.Nat.{ℕ, ◌≤◌}
use native.Mathlib.Omega.{arith}
use borrow.Author.Rules.{rules}
use lib.ListN.{length, length-take}
use Rattle.std.specs.Prelude.{Result}
use Rattle.std.specs.Result.{result_unwrap_or}
use Rattle.lists.specs.Lists.{laid_over}
use Rattle.settings.specs.Settings.{most_values}
use Rattle.packet.specs.declared.WriteError.{WriteError}
use Rattle.packet.specs.Packet.{most_data, longest, written_of, output_of}
use Rattle.packet.specs.declared.Edition.{Edition}
use Rattle.packet.proofs.EachEdition.{head_few}
use Rattle.packet.proofs.Packets.{packet_length, packet_written_lem, packet_laid}
use Rattle.requests.specs.declared.Request.{Request}
use Rattle.requests.specs.Request.{request_data, request_packet}
use Rattle.std.proofs.Common.{List}
use Rattle.host.proofs.sending.send.Goals as goal

-- There is room, and a request's data fits, so its packet is written. Assumes nothing.
data_fits : (edition : Edition) (r : Request) → length r.values ≡ most_values → length (request_data r) ≤ most_data edition
data_fits edition r n = simp length-take (omega (arith, head_few edition))

-- what was written
record Sent (edition : Edition) (r : Request) (w : Result ℕ WriteError) (out out' : List ℕ) : Type 0 where
  value : result_unwrap_or w 0 ≡ length (request_packet edition r)
  out_after : out' ≡ laid_over (request_packet edition r) out

sent : (edition : Edition) (r : Request) (w : Result ℕ WriteError) (out out' : List ℕ) → length r.values ≡ most_values → longest ≤ length out
    → w ≡ written_of edition out (request_data r) → out' ≡ output_of edition out r.id r.group (request_data r) → Sent edition r w out out'
unfolding request_packet
sent edition r w out out' n room e o =
    let fits = data_fits edition r n in
    record {
      value = ap (λ (v : Result ℕ WriteError). result_unwrap_or v 0) (e ∙ packet_written_lem edition _ r.id r.group _ room fits) ∙ sym (packet_length edition r.id r.group _ fits);
      out_after = o ∙ packet_laid _ _ _ _ _ room fits;
    }

pub returns : goal.returns
returns c =
    let w = c.write_request in
    let s = sent _ _ _ _ _ (search rules) c.requires w.ensures.value w.ensures.out_after in
    record { value = c.unwrap_or.ensures ∙ s.value; out_after = s.out_after }
