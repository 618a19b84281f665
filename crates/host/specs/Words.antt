-- How an outcome prints.
use Rattle.std.specs.Prelude.{ℕ, List, ◌∷◌, ◌++◌, codes, decimal}
use Rattle.host.specs.declared.End.{End}
use Rattle.host.specs.declared.Outcome.{Outcome}
use Rattle.host.specs.Calls.{refusal_number}

abbrev pub end_word : End → List ℕ
end_word End.Unheard = codes "unheard"
end_word End.Ack = codes "ack"
end_word End.Nav = codes "nav"
end_word End.OffOrRefused = codes "off-or-refused"
end_word End.Report = codes "report"
end_word End.GivenUp = codes "given-up"

-- behind an end a space and how often the packet was sent
abbrev pub outcome_words : Outcome → List ℕ
outcome_words Outcome.Idle = codes "idle"
outcome_words Outcome.Resting = codes "resting"
outcome_words Outcome.Waiting = codes "waiting"
outcome_words (Outcome.Over end n) = end_word end ++ 32 ∷ decimal n
outcome_words (Outcome.Refused refusal) = codes "refused " ++ decimal (refusal_number refusal)
