-- A wall's height V and width H in one byte, where no wall is wider than `widest` panels. 002, 8.6.2, note 2; 02, A6.
use Rattle.std.specs.Prelude.{ℕ, ◌+◌, ◌-◌, ◌*◌, ◌/◌, ◌%◌, Bool, ◌&&◌, leb}

-- Data[4] = (V Monitors - 1) × widest + H Monitors
abbrev pub byte_of : ℕ → ℕ → ℕ → ℕ
byte_of widest v h = (v - 1) * widest + h

-- The way back, with V and H from 1 up: the manual's remainder of the byte itself gives H = 0 for the widest wall.
abbrev pub height_of : ℕ → ℕ → ℕ
height_of widest byte = (byte - 1) / widest + 1

abbrev pub width_of : ℕ → ℕ → ℕ
width_of widest byte = (byte - 1) % widest + 1

-- from 1 up to a last one
unfoldable pub up_to : ℕ → ℕ → Bool
up_to last n = leb 1 n && leb n last
