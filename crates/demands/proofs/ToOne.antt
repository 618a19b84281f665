-- A packet to one panel that is there: that panel is asked, and answers. Assumes nothing.
use Prim.Native.Nat.{ℕ}
use mathlib.Core.Bool.{Bool, true, false, cond}
use mathlib.Core.Path.{◌≡◌, refl, ◌∙◌}
use borrow.Author.Tests.{eq-eqb, ne_eqb}
use lib.Dec.{eqb}
use lib.ListN.{get_or}
use Rattle.std.specs.Prelude.{Some}
use Rattle.packet.specs.declared.MonitorId.{MonitorId}
use Rattle.packet.specs.declared.Control.{Control}
use Rattle.packet.specs.declared.Verdict.{Verdict}
use Rattle.packet.specs.Packet.{group_id}
use Rattle.packet.specs.Reading.{Reading}
use Rattle.packet.specs.Answered.{is_heard}
use Rattle.panels.specs.declared.Panel.{Panel}
use Rattle.panels.specs.declared.Table.{Table}
use Rattle.panels.specs.Wall.{blank, panels_of, place_of}
use Rattle.panels.specs.Addressed.{reaches}
use Rattle.panels.specs.WellFormed.{GoodPanel, WellFormed}
use Rattle.panels.proofs.Laws.{place_there}
use Rattle.panels.proofs.Formed.{good_at}
use Rattle.answers.specs.Reply.{word_from}
use Rattle.answers.specs.Judged.{command, judge, taken, not_available, reply_by}
use Rattle.answers.specs.Played.{answered}
use Rattle.answers.proofs.Readings.{answered-intact}

-- to a set the word goes by whether it is taken
pub set-reply : (i : MonitorId) (t : Bool) (q : Panel) → reply_by i (cond t (taken q) not_available) ≡ word_from i (cond t Control.Ack Control.Nav)
set-reply i true q = refl
set-reply i false q = refl

module _ (t : Table) (f : WellFormed t) (i : MonitorId) (k : ℕ) (there : place_of i (panels_of t) ≡ Some k) where
  abbrev pub panel : Panel
  panel = get_or (panels_of t) k blank

  pub asked_good : GoodPanel panel
  asked_good = good_at (panels_of t) f.good k (place_there i (panels_of t) k there).0

  named : eqb i.0 0 ≡ false
  named = ne_eqb i.0 0 (λ e. asked_good.named ((place_there i (panels_of t) k there).1 ∙ e))

  pub asked_reached : reaches i (group_id 0) panel ≡ true
  unfolding reaches
  asked_reached = rw (named, eq-eqb _ _ (place_there i (panels_of t) k there).1)

  pub asked_replies : (r : Reading) (n : ℕ) → r.verdict ≡ Verdict.Intact i (group_id 0) n
      → (answered (panels_of t) r).reply ≡ reply_by i (judge (command r.part) panel)
  unfolding is_heard
  asked_replies r n intact = rw (answered-intact (panels_of t) r i (group_id 0) n intact, named, there)
