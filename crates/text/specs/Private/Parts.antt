-- Bytes printed in parts.
use Rattle.std.specs.Prelude.{ℕ}

-- how many bytes a part has at most
abbrev pub most_in_part : ℕ
most_in_part = 64
