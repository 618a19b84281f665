-- What a call is refused by, and what comes back.
use Rattle.std.specs.Prelude.{ℕ, [], Some, Result, Ok, Err}
use Rattle.batch.specs.Scene.{refusal_number as list_number}
use Rattle.refusals.specs.Refusals.{refusal_number, no_room, unknown_edition, would_lose}
use Rattle.undivarro.specs.declared.Outcome.{Outcome}
use Rattle.undivarro.specs.declared.Refused.{Refused}
use Rattle.undivarro.specs.Calls.{refused}

abbrev pub refused_number : Refused → ℕ
refused_number (Refused.Setup r) = refusal_number r
refused_number Refused.WouldLose = would_lose
refused_number Refused.NoRoom = no_room
refused_number Refused.UnknownEdition = unknown_edition
refused_number (Refused.List r) = list_number (Some r)

abbrev pub outcome_of : Result Outcome Refused → Outcome
outcome_of (Ok outcome) = outcome
outcome_of (Err r) = (refused (refused_number r) [] []).outcome
