-- What one panel makes of a packet's data. 01, "Answering a burst", steps 4 and 5; "The settings"; 02, A1: by its own profile;
-- A5: power off while off; A6: by its own kind, and by the wall that it has.
use Rattle.std.specs.Prelude.{ℕ, Bool, cond, not, ◌&&◌, List, [], ◌∷◌, eqb, get_or, Option, Some, None}
use Rattle.lists.specs.Lists.{same}
use Rattle.codes.specs.declared.Code.{Code}
use Rattle.settings.specs.Settings.{get_code, values_of, values_with, power_row, off}
use Rattle.codes.specs.Found.{found_by}
use Rattle.models.specs.Models.{allowed_for, filled}
use Rattle.packet.specs.declared.MonitorId.{MonitorId}
use Rattle.packet.specs.declared.Control.{Control}
use Rattle.panels.specs.declared.Panel.{Panel}
use Rattle.panels.specs.Wall.{model_of}
use Rattle.answers.specs.declared.Reply.{Reply}
use Rattle.answers.specs.Reply.{word_from, report_from}

pub data Command : Type 0 where
  get_of : ℕ → Command
  set_of : ℕ → List ℕ → Command
  unavailable : Command

-- set data is the set code and then the values, get data the get code alone
abbrev pub command_by : Option Code → List ℕ → Command
command_by (Some (Code.Set row)) values = set_of row values
command_by (Some (Code.Get row)) [] = get_of row
command_by (Some (Code.Get row)) (v ∷ values) = unavailable
command_by None values = unavailable

unfoldable pub command : List ℕ → Command
command [] = unavailable
command (code ∷ values) = command_by (found_by code) values

pub data Judged : Type 0 where
  not_available : Judged
  reported : List ℕ → Judged
  taken : Panel → Judged

-- the panel with a row's values stored, and all else as it was
unfoldable pub stored : ℕ → List ℕ → Panel → Panel
stored row values p = record { id = p.id; group = p.group; profile = p.profile; values = values_with row values p.values }

-- Power off to a panel that is off. 02, A5, amends 01: step 4 has it for one more NAV, step 5 does not store it, and of "power set
-- to the value it has is an ACK" on is left. 001, 3.1.1, the third NAV: "system is already in stand-by mode".
unfoldable pub off_already : ℕ → List ℕ → Panel → Bool
off_already row values p = eqb row power_row && (same values off && same (values_of row p.values) off)

-- the values that a panel would then hold: those of the set, but a tiling's byte 0 leaves it the wall that it has
abbrev pub held_then : ℕ → List ℕ → Panel → List ℕ
held_then row values p = filled row (get_or (values_of row p.values) 3 0) values

-- all else that the panel's own profile and kind allow it to hold is taken
unfoldable pub takes : ℕ → List ℕ → Panel → Bool
takes row values p = allowed_for (model_of p) row (held_then row values p) && not (off_already row values p)

-- one panel decides for itself
unfoldable pub judge : Command → Panel → Judged
judge (get_of row) p = reported (get_code row ∷ values_of row p.values)
judge (set_of row values) p = cond (takes row values p) (taken (stored row (held_then row values p) p)) not_available
judge unavailable p = not_available

abbrev pub panel_after : Judged → Panel → Panel
panel_after not_available p = p
panel_after (reported d) p = p
panel_after (taken q) p = q

-- a get: the report alone; a set: ACK; else NAV
abbrev pub reply_by : MonitorId → Judged → Reply
reply_by i not_available = word_from i Control.Nav
reply_by i (reported d) = report_from i d
reply_by i (taken q) = word_from i Control.Ack
