use Rattle.std.proofs.Common.{◌≡◌, ◌+◌, ◌*◌, ◌≤◌, length}
use Rattle.bursts.specs.Left.{bursts_left}
use Rattle.panels.specs.Wall.{panels_of}
use Rattle.panels.specs.WellFormed.{WellFormed}
use Rattle.batch.specs.Scene.{room_for_one}
use Rattle.batch.proofs.Scenes.{Playing}
use Rattle.batch.proofs.playing.play_all.Given as goal

-- What is written, and what the bursts that are left come to, is what the list comes to. Assumes nothing.
abbrev pub invariant-loop-burst : goal.invariant-loop-burst
invariant-loop-burst l = let left = bursts_left l.burst-iterator in record {
  formed : WellFormed l.t;
  same : length l.out ≡ length l.initial.out;
  room : l.written + room_for_one * length left ≤ length l.initial.out;
  playing : Playing l.edition (panels_of l.initial.t) (bursts_left l.fn.list) l.initial.out (panels_of l.t) left l.written l.out;
}
