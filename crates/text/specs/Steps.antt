-- A step that was read into a buffer. 01, "The play program". No contract can say which bytes standard input has; of those that
-- were read, with their count before them, it says that they are one burst of that form, or the start of one. Of a reader whose
-- bytes are known it says that they are the next of those.
use Rattle.std.specs.Prelude.{ℕ, Option, Result, Ok, Err, length, ◌≤◌, ◌<◌, true, false, ◌≡◌, List, [], ◌∷◌, take, drop, codes}
use Rattle.std.specs.Io.KnownBytes.{Consumes, IsAtEnd}
use Rattle.text.specs.Counts.{IsPrefixLen}
use Rattle.bursts.specs.Bursts.{bursts_in}
use Rattle.text.specs.declared.Stop.{Stop}

-- its count is one byte
abbrev pub longest_step : ℕ
longest_step = 255

-- what is printed of it
abbrev pub stop_word : Stop → List ℕ
stop_word Stop.Cut = codes "cut"
stop_word Stop.End = codes "end"

-- what is left of the buffer that was `before`: bytes past the step are untouched; where it was cut, fewer came than its count says
abbrev pub StepIn : List ℕ → Result ℕ Stop → List ℕ → Type 0
StepIn before (Ok n) after =
    IsPrefixLen n after × (drop n after ≡ drop n before) × (bursts_in (n ∷ take n after) ≡ record { whole = take n after ∷ []; cut = false })
StepIn before (Err Stop.Cut) after =
    (n r : ℕ) × (r < n) × (n ≤ longest_step) × (drop n after ≡ drop n before) × (bursts_in (n ∷ take r after) ≡ record { whole = []; cut = true })
StepIn before (Err Stop.End) after = after ≡ before

-- where reading failed, fewer than n bytes had been taken, and they are the next ones of those that are known
abbrev pub TakesFewer : ℕ → Option (List ℕ) → Option (List ℕ) → Type 0
TakesFewer n old new = (bs : List ℕ) × (length bs < n) × Consumes old new bs

-- what a reader gave for it, where its bytes are known: `old` before and `new` after; the input stopped inside it, or before it
abbrev pub TakesStep : Option (List ℕ) → Option (List ℕ) → Result ℕ Stop → List ℕ → Type 0
TakesStep old new (Ok n) after = Consumes old new (n ∷ take n after)
TakesStep old new (Err Stop.Cut) after = (n r : ℕ) × (r < n) × Consumes old new (n ∷ take r after) × IsAtEnd new
TakesStep old new (Err Stop.End) after = Consumes old new [] × IsAtEnd new
