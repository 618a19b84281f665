-- A burst that is left is played on the table as it is, and its answer put behind what was written. Assumes nothing.
use Rattle.std.specs.Prelude.{Option}
use Rattle.packet.specs.declared.MonitorId.{MonitorId}
use Rattle.std.proofs.Common.{◌≡◌, ◌∷◌, ◌+◌, ◌-◌, ◌*◌, ◌≤◌, List, ℕ, length, set, Option, refl, sym, ap, ap₂, subst, ◌∙◌, arith}
use mathlib.Core.List.{[]}
use borrow.Rule.Slice.PartMut.{put_mid}
use Rattle.lists.specs.Lists.{laid_at, laid_over}
use Rattle.lists.proofs.Laid.{length_laid}
use Rattle.bursts.specs.Left.{bursts_left}
use Rattle.bursts.specs.declared.BurstList.{BurstList}
use Rattle.packet.specs.declared.Edition.{Edition}
use Rattle.packet.specs.declared.Verdict.{Verdict}
use Rattle.packet.specs.Packet.{longest, damage_in}
use Rattle.packet.specs.Reading.{reading_of}
use Rattle.panels.specs.declared.Table.{Table}
use Rattle.panels.specs.Wall.{Wall, panels_of, table_of}
use Rattle.panels.specs.WellFormed.{WellFormed}
use Rattle.answers.specs.declared.Heard.{Heard}
use Rattle.answers.specs.declared.Played.{Played}
use Rattle.answers.specs.Reply.{sent_bytes}
use Rattle.answers.specs.Played.{answered_by, answered_on}
use Rattle.answers.specs.Turn.{turn_on, heard_as}
use Rattle.answers.proofs.Formed.{formed_played, wall-played}
use Rattle.answers.proofs.Turns.{Leaves}
use Rattle.answers.proofs.Entries.{reading, heard_leaves, left_is, change_fits, table_changed, table_stays}
use Rattle.batch.specs.Scene.{room_for_one, played_out}
use Rattle.batch.proofs.Counted.{behind, put_there}
use Rattle.batch.proofs.Scenes.{Playing, playing_first, playing_next, playing_last}
use Rattle.batch.proofs.playing.play_all.Goals as goal
use Rattle.batch.proofs.playing.play_all.Goals.{After-hear_on-heard}

-- a burst that was heard on a table
module _ {t : Table} (f : WellFormed t) (edition : Edition) (v : Verdict) (d : List ℕ) (a : Option MonitorId) {h : Heard} (gave : h ≡ heard_as edition (turn_on (panels_of t) v d a)) where
  abbrev after : Wall
  after = (answered_by v (panels_of t) d a).wall

  -- the bursts played, and the answer to this one behind its count
  module _ (burst : List ℕ) (is_read : reading v d a ≡ reading_of edition burst) {u : Table} (is : u ≡ table_of after)
      {before : Wall} {all rest : List (List ℕ)} {lent out l : List ℕ} {w : ℕ} (playing : Playing edition before all lent (panels_of t) (burst ∷ rest) w out)
      (room : w + room_for_one * length (burst ∷ rest) ≤ length lent) (same : length out ≡ length lent) (small : h.sent ≤ longest)
      (laid : l ≡ laid_over (sent_bytes edition (turn_on (panels_of t) v d a).reply) (behind w out)) where
    abbrev answer : List ℕ
    answer = sent_bytes edition (turn_on (panels_of t) v d a).reply

    abbrev out' : List ℕ
    out' = set (put_mid (w + 1) (length out - (w + 1)) out l) w h.sent

    played_is : ◌≡◌ {A = Played} (record { table = u; reply = (turn_on (panels_of t) v d a).reply; damage = damage_in v }) (answered_on t (reading_of edition burst))
    played_is = left_is f v d a is ∙ ap (answered_on t) is_read

    formed : WellFormed u
    formed = formed_played f _ played_is

    put : out' ≡ laid_at w (length answer ∷ answer) out
    put =
        let n = ap (λ (h : Heard). h.sent) gave in
        ap₂ (λ (m : List ℕ) (k : ℕ). set (put_mid (w + 1) (length out - (w + 1)) out m) w k) laid n ∙ put_there w out (omega arith) _ (omega arith)

    long : length out' ≡ length lent
    long = ap length put ∙ length_laid w _ out (omega (arith, ap (λ (h : Heard). h.sent) gave)) ∙ same

    on : Playing edition before all lent (panels_of u) rest (w + 1 + h.sent) out'
    on = let n = ap (λ (h : Heard). h.sent) gave in
        playing_next playing (wall-played f _ played_is) (ap (λ (p : Played). p.reply) played_is) (omega arith) put (omega arith)

pub loop-burst-init : goal.loop-burst-init
loop-burst-init c =
    let is = ap (λ (b : BurstList). bursts_left b) c.into_iter-burst-iterator.ensures.into_iter_gives in
    record {
      formed = c.requires.0;
      same = refl;
      room = omega (arith, c.requires.1, ap {B = ℕ} length is);
      playing = subst (λ (rest : List (List ℕ)). Playing c.args.edition (panels_of c.args.t.now) (bursts_left c.args.list) c.args.out.now (panels_of c.args.t.now) rest 0 c.args.out.now) (sym is)
          (playing_first c.args.edition (panels_of c.args.t.now) (bursts_left c.args.list) c.args.out.now);
    }

-- the burst that comes next, and the table that it leaves
heard_so : (c : After-hear_on-heard) → Leaves c.hear_on-heard.result.change c.read-reading.result.data.now (panels_of c.loop-burst.t) (after c.loop-burst.invariant.formed c.args.edition c.read-reading.result.verdict c.read-reading.result.data.now c.read-reading.result.seems c.hear_on-heard.ensures.value.0)
heard_so c = heard_leaves c.loop-burst.invariant.formed c.args.edition c.read-reading.result.verdict c.read-reading.result.data.now c.read-reading.result.seems c.hear_on-heard.ensures.value.0

goes_on : (c : After-hear_on-heard) {u : Table} → u ≡ table_of (after c.loop-burst.invariant.formed c.args.edition c.read-reading.result.verdict c.read-reading.result.data.now c.read-reading.result.seems c.hear_on-heard.ensures.value.0)
    → let l = set (put_mid (c.loop-burst.written + 1) (length c.loop-burst.out - (c.loop-burst.written + 1)) c.loop-burst.out c.hear_on-heard.new.out) c.loop-burst.written c.hear_on-heard.result.sent in
    let w = c.loop-burst.written + 1 + c.hear_on-heard.result.sent in
    let rest = bursts_left c.next.new.self in
    record {
      formed : WellFormed u;
      same : length l ≡ length c.args.out.now;
      room : w + room_for_one * length rest ≤ length c.args.out.now;
      playing : Playing c.args.edition (panels_of c.args.t.now) (bursts_left c.args.list) c.args.out.now (panels_of u) rest w l;
    }
goes_on c is =
    let i = c.loop-burst.invariant in
    let steps = c.in-Some.ensures.steps in
    let burst = c.in-Some.burst.now in
    let rest = bursts_left c.next.new.self in
    let is_read = c.read-reading.ensures in
    let playing = subst (λ (rest : List (List ℕ)). Playing c.args.edition (panels_of c.args.t.now) (bursts_left c.args.list) c.args.out.now (panels_of c.loop-burst.t) rest c.loop-burst.written c.loop-burst.out) steps i.playing in
    let many = ap {B = ℕ} length steps in
    let room : c.loop-burst.written + room_for_one * length (burst ∷ rest) ≤ length c.args.out.now = omega (arith, i.room) in
    let small = c.hear_on-heard.ensures.value.1 in
    let gave = c.hear_on-heard.ensures.value.0 in
    let laid = c.hear_on-heard.ensures.out_after in
    record {
      formed = formed i.formed c.args.edition _ _ _ gave burst is_read is playing room i.same small laid;
      same = long i.formed c.args.edition _ _ _ gave burst is_read is playing room i.same small laid;
      room = omega (arith, room, small);
      playing = on i.formed c.args.edition _ _ _ gave burst is_read is playing room i.same small laid;
    }

pub store-requires : goal.store-requires
store-requires c =
    let f = c.loop-burst.invariant.formed in
    (f, change_fits f c.read-reading.result.data.now _ c.in-Some-change.is (heard_so (goal.at.store-requires c).After-hear_on-heard))

pub loop-burst-preserved-in-Some-change : goal.loop-burst-preserved-in-Some-change
loop-burst-preserved-in-Some-change c =
    let h = (goal.at.loop-burst-preserved-in-Some-change c).After-hear_on-heard in
    goes_on h (table_changed c.loop-burst.invariant.formed c.read-reading.result.data.now _ c.in-Some-change.is (heard_so h) c.store.ensures)

pub loop-burst-preserved : goal.loop-burst-preserved
loop-burst-preserved c =
    let h = (goal.at.loop-burst-preserved c).After-hear_on-heard in
    goes_on h (table_stays c.loop-burst.invariant.formed c.read-reading.result.data.now _ c.in_default.is (heard_so h))

-- no burst is left
module _ {edition : Edition} {before : Wall} {all rest : List (List ℕ)} {lent out : List ℕ} {t : Table} {w : ℕ} (f : WellFormed t) (none : rest ≡ []) (playing : Playing edition before all lent (panels_of t) rest w out) where
  last : let s = played_out edition before all in (panels_of t ≡ s.wall) × (w ≡ length s.answers) × (out ≡ laid_over s.answers lent)
  last = playing_last (subst (λ (rest : List (List ℕ)). Playing edition before all lent (panels_of t) rest w out) none playing)

pub returns-clause-value : goal.returns-clause-value
returns-clause-value c = (last c.loop-burst.invariant.formed c.in-None.ensures.steps.0 c.loop-burst.invariant.playing).1

pub returns-clause-table_after : goal.returns-clause-table_after
returns-clause-table_after c = c.loop-burst.invariant.formed.held ∙ ap table_of (last c.loop-burst.invariant.formed c.in-None.ensures.steps.0 c.loop-burst.invariant.playing).0

pub returns-clause-out_after : goal.returns-clause-out_after
returns-clause-out_after c = (last c.loop-burst.invariant.formed c.in-None.ensures.steps.0 c.loop-burst.invariant.playing).2
