-- Behind the bursts that were counted the list has the rest of its bursts, and is cut where they are. Assumes nothing.
use Rattle.std.proofs.Common.{◌≡◌, length, ◌+◌, ◌≤◌}
use Rattle.bursts.specs.Bursts.{bursts_in}
use Rattle.bursts.proofs.BurstList.of.Given as goal

abbrev pub invariant-loop-size : goal.invariant-loop-size
invariant-loop-size l = record {
  few : l.count + length l.left ≤ length l.list;
  cut : (bursts_in l.list).cut ≡ (bursts_in l.left).cut;
  counted : length (bursts_in l.list).whole ≡ l.count + length (bursts_in l.left).whole;
}

abbrev pub decreases-loop-size : goal.decreases-loop-size
decreases-loop-size l = length l.left
