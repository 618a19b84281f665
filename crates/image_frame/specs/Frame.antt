-- A setup image as a whole: its trailer, and where its records begin and end. 01, "Setup image, form 1", refusals 11 to 15;
-- 02, A2: 12 is neither form.
use Rattle.std.specs.Prelude.{ℕ, zero, suc, ◌+◌, ◌-◌, ◌*◌, ◌≤◌, ◌≡◌, Bool, true, cond, ◌&&◌, List, ltb, eqb, length, get_or, take, drop, Result, Ok, Err, unwrap_or}
use Rattle.std.specs.Option.{option_map_or}
use Rattle.panels.specs.Wall.{most_panels}
use Rattle.lists.specs.Lists.{each}
use Rattle.image_forms.specs.declared.Form.{Form}
use Rattle.image_forms.specs.Forms.{form_with}
use Rattle.refusals.specs.declared.Refusal.{Refusal}

-- n starts of two bytes, then n, then the form byte
abbrev pub last_byte : List ℕ → ℕ
last_byte image = get_or image (length image - 1) 0

-- an image that is read ends with a form's byte; any other would stand for form 2
abbrev pub form_of : List ℕ → Form
form_of image = unwrap_or (form_with (last_byte image)) Form.Two

abbrev pub count_of : List ℕ → ℕ
count_of image = get_or image (length image - 2) 0

-- the place where the starts begin
abbrev pub starts_at : List ℕ → ℕ
starts_at image = length image - 2 - 2 * count_of image

-- record k's start, high byte first
abbrev pub start_at : List ℕ → ℕ → ℕ
start_at image k = 256 * get_or image (starts_at image + 2 * k) 0 + get_or image (starts_at image + 2 * k + 1) 0

-- where record k begins; behind the last record, the first byte of the starts
unfoldable pub edge : List ℕ → ℕ → ℕ
edge image k = cond (ltb k (count_of image)) (start_at image k) (starts_at image)

-- m records from k on end behind their starts
unfoldable pub rises : List ℕ → ℕ → ℕ → Bool
rises image k zero = true
rises image k (suc m) = ltb (edge image k) (edge image (suc k)) && rises image (suc k) m

-- The first start is 0, starts rise strictly, and the last, so each, is below the place where the starts begin. With n = 0
-- that place itself is 0, so the image is 00 and the form byte.
unfoldable pub starts_fit : List ℕ → Bool
starts_fit image = eqb (edge image 0) 0 && rises image 0 (count_of image)

-- the image as it is, where it is sound as a whole; else 11 to 15, in this order
unfoldable pub frame_of : List ℕ → Result (List ℕ) Refusal
frame_of image =
    cond (ltb (length image) 2) (Err Refusal.TooShort)
    (option_map_or (λ form. cond (ltb most_panels (count_of image)) (Err Refusal.TooMany)
    (cond (ltb (length image) (2 * count_of image + 2)) (Err Refusal.NoStarts) (cond (starts_fit image) (Ok image) (Err Refusal.Starts)))) (form_with (last_byte image)) (Err Refusal.OtherForm))

-- what is so of an image that is sound as a whole
pub record IsFrame (image : List ℕ) : Type 0 where
  pub two : 2 ≤ length image
  pub few : count_of image ≤ most_panels
  pub room : 2 * count_of image + 2 ≤ length image
  pub starts : starts_fit image ≡ true

-- record k runs from its start to the next one, the last to the first byte of the starts
abbrev pub record_in : List ℕ → ℕ → List ℕ
record_in image k = take (edge image (suc k) - edge image k) (drop (edge image k) image)

unfoldable pub records_in : List ℕ → List (List ℕ)
records_in image = each (record_in image) (count_of image)
