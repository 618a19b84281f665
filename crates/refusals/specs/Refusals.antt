-- The numbers of refusals that several rooms give. 01, "Table calls and numbers".
use Rattle.std.specs.Prelude.{ℕ, Result, Ok, Err}
use Rattle.refusals.specs.declared.Refusal.{Refusal}

-- why a setup image is refused
abbrev pub refusal_number : Refusal → ℕ
refusal_number Refusal.TooShort = 11
refusal_number Refusal.OtherForm = 12
refusal_number Refusal.TooMany = 13
refusal_number Refusal.NoStarts = 14
refusal_number Refusal.Starts = 15
refusal_number Refusal.Record = 16
refusal_number Refusal.Field = 17
refusal_number Refusal.Value = 18

-- 0 where nothing is refused
abbrev pub number_of : {A : Type 0} → Result A Refusal → ℕ
number_of (Ok x) = 0
number_of (Err r) = refusal_number r

-- what comes of a value, if nothing is refused
abbrev pub if_sound : {A B : Type 0} → Result A Refusal → (A → Result B Refusal) → Result B Refusal
if_sound (Ok x) next = next x
if_sound (Err r) next = Err r

-- a lent output is too short
abbrev pub no_room : ℕ
no_room = 19

-- an edition that there is not (02, A11)
abbrev pub unknown_edition : ℕ
unknown_edition = 23

-- form 1 would lose something (02, A2)
abbrev pub would_lose : ℕ
would_lose = 31
