-- Records to salvage, each a part of 02's A7: what is told of them, and the wall that is kept.
use Rattle.std.specs.Prelude.{ℕ, List, [], ◌∷◌, map, ◌≡◌}
use Rattle.settings.specs.declared.Profile.{Profile}
use Rattle.tiling.specs.declared.Kind.{Kind}
use Rattle.packet.specs.Packet.{monitor_id, group_id}
use Rattle.panels.specs.declared.Panel.{Panel}
use Rattle.panels.specs.Wall.{Wall, fresh_panel}
use Rattle.answers.specs.Judged.{stored}
use Rattle.image_forms.specs.declared.Form.{Form}
use Rattle.image_write.specs.Written.{image_of}
use Rattle.image_salvage.specs.Salvaged.{salvage_of, text_of}

-- records of form 2, the text of the lines, and the wall
pub record Case : Type 0 where
  pub records : List (List ℕ)
  pub text : List ℕ
  pub wall : Wall

abbrev pub tried : List (List ℕ) → Case
tried records = let s = salvage_of (image_of Form.Two records) in record { records = records; text = text_of s; wall = s.wall }

abbrev pub case : List (List ℕ) → List ℕ → Wall → Case
case r t w = record { records = r; text = t; wall = w }

abbrev pub one : Panel
one = fresh_panel (monitor_id 1) (group_id 9) Profile.General Kind.FiveByFive

-- In ASCII 49 is the digit 1, 32 the space and 10 the line feed. The fan is row 6, its code 0x61; APM row 8, its code 0xD0.
unfoldable pub cases : List Case
cases =
    -- "1 16": group 0; the ID of a record that is dropped does not count as seen
    case ((1 ∷ 0 ∷ 0 ∷ []) ∷ (1 ∷ 9 ∷ 0 ∷ []) ∷ []) (49 ∷ 32 ∷ 49 ∷ 54 ∷ 10 ∷ []) (one ∷ [])
    -- "1 17 19": a get code; what stands behind it is fresh
    ∷ case ((1 ∷ 9 ∷ 0 ∷ 0x61 ∷ 1 ∷ 4 ∷ 0x19 ∷ 1 ∷ 2 ∷ 0xD0 ∷ 1 ∷ 3 ∷ []) ∷ []) (49 ∷ 32 ∷ 49 ∷ 55 ∷ 32 ∷ 49 ∷ 57 ∷ 10 ∷ []) (stored 6 (4 ∷ []) one ∷ [])
    -- "1 18 61" and "1 18 DD": values that are not allowed are fresh, and the fields behind them are kept
    ∷ case ((1 ∷ 9 ∷ 0 ∷ 0x61 ∷ 1 ∷ 5 ∷ 0xDD ∷ 1 ∷ 9 ∷ 0xD0 ∷ 1 ∷ 3 ∷ []) ∷ [])
    (49 ∷ 32 ∷ 49 ∷ 56 ∷ 32 ∷ 54 ∷ 49 ∷ 10 ∷ 49 ∷ 32 ∷ 49 ∷ 56 ∷ 32 ∷ 68 ∷ 68 ∷ 10 ∷ []) (stored 8 (3 ∷ []) one ∷ [])
    -- "1 18 61" and "1 17 61": a value that is not allowed counts as seen
    ∷ case ((1 ∷ 9 ∷ 0 ∷ 0x61 ∷ 1 ∷ 5 ∷ 0x61 ∷ 1 ∷ 4 ∷ []) ∷ [])
    (49 ∷ 32 ∷ 49 ∷ 56 ∷ 32 ∷ 54 ∷ 49 ∷ 10 ∷ 49 ∷ 32 ∷ 49 ∷ 55 ∷ 32 ∷ 54 ∷ 49 ∷ 10 ∷ []) (one ∷ [])
    -- "1 18 01" and "1 18 22": kind 2 becomes 0, for which no wall has the byte 26
    ∷ case ((1 ∷ 9 ∷ 0 ∷ 0x01 ∷ 1 ∷ 2 ∷ 0x22 ∷ 4 ∷ 0 ∷ 0 ∷ 1 ∷ 26 ∷ []) ∷ [])
    (49 ∷ 32 ∷ 49 ∷ 56 ∷ 32 ∷ 48 ∷ 49 ∷ 10 ∷ 49 ∷ 32 ∷ 49 ∷ 56 ∷ 32 ∷ 50 ∷ 50 ∷ 10 ∷ []) (one ∷ [])
    ∷ []

abbrev pub CasesSalvaged : Type 0
CasesSalvaged = map (λ (c : Case). tried c.records) cases ≡ cases
