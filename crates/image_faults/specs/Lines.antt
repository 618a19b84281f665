-- A fault's line: record number from 1 and refusal number in decimal, and for 17 and 18 the code as two upper-case hex digits,
-- with single spaces between, ended by a line feed. 02, A7.
use Rattle.std.specs.Prelude.{ℕ, ◌+◌, ◌-◌, ◌/◌, ◌%◌, cond, List, [], ◌∷◌, ◌++◌, ltb, length, replicate, Option, None, Some}
use Rattle.hex_digits.specs.Digits.{digit_of}
use Rattle.refusals.specs.declared.Refusal.{Refusal}
use Rattle.refusals.specs.Refusals.{refusal_number}
use Rattle.image_faults.specs.declared.Fault.{Fault}
use Rattle.image_faults.specs.declared.Line.{Line}

abbrev pub space : ℕ
space = 32

abbrev pub line_feed : ℕ
line_feed = 10

-- a number below 100; 48 is the digit 0
abbrev pub decimal : ℕ → List ℕ
decimal n = cond (ltb n 10) ((48 + n) ∷ []) ((48 + n / 10) ∷ (48 + n % 10) ∷ [])

abbrev pub hex : ℕ → List ℕ
hex code = digit_of (code / 16) ∷ digit_of (code % 16) ∷ []

-- the number of the reader's refusal
abbrev pub fault_number : Fault → ℕ
fault_number Fault.Dropped = refusal_number Refusal.Record
fault_number (Fault.Broken code) = refusal_number Refusal.Field
fault_number (Fault.NotAllowed code) = refusal_number Refusal.Value

-- and the code, where one is told
abbrev pub code_in : Fault → Option ℕ
code_in Fault.Dropped = None
code_in (Fault.Broken code) = Some code
code_in (Fault.NotAllowed code) = Some code

abbrev pub code_text : Option ℕ → List ℕ
code_text None = []
code_text (Some code) = space ∷ hex code

abbrev pub code_words : Fault → List ℕ
code_words fault = code_text (code_in fault)

unfoldable pub line_of : ℕ → Fault → List ℕ
line_of number fault = decimal number ++ space ∷ (decimal (fault_number fault) ++ code_words fault ++ line_feed ∷ [])

-- how many bytes the longest has
abbrev pub longest_line : ℕ
longest_line = 9

-- a line at the front of that many
abbrev pub padded : List ℕ → Line
padded line = record { bytes = line ++ replicate (longest_line - length line) 0; count = length line }
