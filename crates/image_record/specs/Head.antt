-- The head of a record. 01, "Table calls and numbers", refusal 16; 02, A2: it goes by the form's head.
use Rattle.std.specs.Prelude.{ℕ, Bool, true, false, cond, not, ◌&&◌, List, leb, eqb, length, get_or, Option, None, is_some}
use Rattle.settings.specs.declared.Profile.{Profile}
use Rattle.packet.specs.Packet.{monitor_id, group_id}
use Rattle.panels.specs.declared.Panel.{Panel}
use Rattle.panels.specs.Wall.{Wall, place_of}
use Rattle.image_forms.specs.declared.Form.{Form}
use Rattle.image_forms.specs.Forms.{head_size, profile_in}

-- the IDs seen before: those of a wall, or those that are marked
abbrev pub id_in : Wall → ℕ → Bool
id_in w i = cond (is_some (place_of (monitor_id i) w)) true false

abbrev pub marked : List Bool → ℕ → Bool
marked seen i = get_or seen i false

-- a whole head, and neither ID nor group 0
abbrev pub head_stands : Form → List ℕ → Bool
head_stands form bytes = leb (head_size form) (length bytes) && not (eqb (get_or bytes 0 0) 0) && not (eqb (get_or bytes 1 0) 0)

-- and an ID not seen before
unfoldable pub head_fits : Form → (ℕ → Bool) → List ℕ → Bool
head_fits form seen bytes = head_stands form bytes && not (seen (get_or bytes 0 0))

-- the profile of a record whose head fits; any other, and one with an unknown profile, is refused by 16
unfoldable pub head_in : Form → (ℕ → Bool) → List ℕ → Option Profile
head_in form seen bytes = cond (head_fits form seen bytes) (profile_in form bytes) None

-- the panel of such a record, with these values
abbrev pub headed : List ℕ → Profile → List ℕ → Panel
headed bytes profile values =
    record { id = monitor_id (get_or bytes 0 0); group = group_id (get_or bytes 1 0); profile = profile; values = values }
