-- The table is what the burst leaves of it, with a change or without. Assumes nothing.
use mathlib.Core.Path.{◌≡◌, ◌∙◌}
use Rattle.panels.specs.Wall.{panels_of, table_of}
use Rattle.answers.specs.Played.{answered_by}
use Rattle.answers.proofs.Entries.{heard_leaves, change_fits, table_changed, table_stays}
use Rattle.image_write.proofs.Losing.{two_holds}
use Rattle.undivarro.proofs.Bursts.{outcome_left, answer_left, out_left, formed_left, size_left}
use Rattle.undivarro.proofs.playing.played.Goals as goal
use Rattle.undivarro.proofs.playing.played.Goals.{Joined-heard, in-Some, in_default}

pub store-requires : goal.store-requires
store-requires c =
    let f = c.requires.0 in
    (f, change_fits f c.read-reading.result.data.now _ c.in-Some.is (heard_leaves f c.args.edition c.read-reading.result.verdict c.read-reading.result.data.now c.read-reading.result.seems c.hear_on-heard.ensures.value.0))

left : (c : Joined-heard) → c.match-heard.t ≡ table_of (answered_by c.read-reading.result.verdict (panels_of c.args.t) c.read-reading.result.data.now c.read-reading.result.seems).wall
left c =
    let f = c.requires.0 in
    let all = heard_leaves f c.args.edition c.read-reading.result.verdict c.read-reading.result.data.now c.read-reading.result.seems c.hear_on-heard.ensures.value.0 in
    elim c.match-heard.branch [
      | in-Some w ↦ w.t-is ∙ table_changed f c.read-reading.result.data.now _ w.in-Some.is all w.store.ensures
      | in_default w ↦ w.t-is ∙ table_stays f c.read-reading.result.data.now _ w.in_default.is all
    ]

pub put_setup-written-requires : goal.put_setup-written-requires
put_setup-written-requires c =
    let a = c.args in
    let f = c.requires.0 in
    let is_read = c.read-reading.ensures in
    let is = left (goal.at.put_setup-written-requires c).Joined-heard in
    (formed_left f a.edition a.burst.now a.answer.now a.out.now _ _ _ is_read is, two_holds _, rw (size_left f a.edition a.burst.now a.answer.now a.out.now _ _ _ is_read is) c.requires.2)

pub returns : goal.returns
returns c =
    let a = c.args in
    let f = c.requires.0 in
    let is_read = c.read-reading.ensures in
    let is = left (goal.at.returns c).Joined-heard in
    record {
      value = outcome_left f a.edition a.burst.now a.answer.now a.out.now _ _ _ is_read is _ c.hear_on-heard.ensures.value.0 _ _ c.given.ensures c.put_setup-written.ensures.value;
      answer_after = answer_left f a.edition a.burst.now a.answer.now a.out.now _ _ _ is_read is _ c.hear_on-heard.ensures.out_after;
      out_after = out_left f a.edition a.burst.now a.answer.now a.out.now _ _ _ is_read is _ c.put_setup-written.ensures.out_after;
    }
