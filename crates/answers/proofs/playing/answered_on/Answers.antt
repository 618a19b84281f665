use Rattle.std.specs.Prelude.{Option}
use Rattle.std.proofs.Common.{◌≡◌, sym, ap, ap₂, ◌∙◌}
use Rattle.packet.specs.declared.Damage.{Damage}
use Rattle.panels.specs.declared.Table.{Table}
use Rattle.panels.specs.Wall.{panels_of, table_of}
use Rattle.answers.specs.declared.Played.{Played}
use Rattle.answers.specs.declared.Reply.{Reply}
use Rattle.answers.specs.Played.{answered_by}
use Rattle.answers.specs.declared.Turn.{Turn}
use Rattle.answers.proofs.Entries.{turn_is, leaves, left_is, change_fits, table_changed, table_stays}
use Rattle.answers.proofs.playing.answered_on.Goals as goal
use Rattle.answers.proofs.playing.answered_on.Goals.{in-Some, in_default}

-- The turn leaves what the definition says. Assumes nothing.
abbrev damaged : Table → Reply → Option Damage → Played
damaged t r d = record { table = t; reply = r; damage = d }

pub store-requires : goal.store-requires
store-requires c =
    let a = c.args in
    let f = c.requires in
    let turn = turn_is f a.reading.verdict a.reading.data.now a.reading.seems c.names_in.ensures c.entry_of-entry.ensures c.turn_of-turn.ensures in
    (f, change_fits f a.reading.data.now _ (sym (ap (λ (t : Turn). t.change) turn) ∙ c.in-Some.is) (leaves f a.reading.verdict a.reading.data.now a.reading.seems))

pub returns : goal.returns
returns c =
    let a = c.args in
    let f = c.requires in
    let turn = turn_is f a.reading.verdict a.reading.data.now a.reading.seems c.names_in.ensures c.entry_of-entry.ensures c.turn_of-turn.ensures in
    let change = sym (ap (λ (t : Turn). t.change) turn) in
    let all = leaves f a.reading.verdict a.reading.data.now a.reading.seems in
    let table : c.match-turn.t ≡ table_of (answered_by a.reading.verdict (panels_of a.t) a.reading.data.now a.reading.seems).wall =
    elim c.match-turn.branch [
      | in-Some w ↦ w.t-is ∙ table_changed f a.reading.data.now _ (change ∙ w.in-Some.is) all w.store.ensures
      | in_default w ↦ w.t-is ∙ table_stays f a.reading.data.now _ (change ∙ w.in_default.is) all
    ] in
    ap₂ (damaged c.match-turn.t) (ap (λ (t : Turn). t.reply) turn) c.damage.ensures ∙ left_is f a.reading.verdict a.reading.data.now a.reading.seems table
