-- A Phoenix panel's video as a caller sees and sets it, in the order of 000, 5.1.3. 02, A1: a tint goes into its byte as two's
-- complement, so that -50 is 0xCE.
use Rattle.std.specs.Prelude.{ℕ, ◌-◌, cond, List, [], ◌∷◌, ltb, ℤ, pos, negsuc, get_or}
use Rattle.profiles.specs.declared.Video.{Video}

-- a byte below 128 is itself, another is 256 less; negsuc n is -(n + 1)
unfoldable pub tint_of : ℕ → ℤ
tint_of b = cond (ltb b 128) (pos b) (negsuc (255 - b))

unfoldable pub tint_byte : ℤ → ℕ
tint_byte (pos n) = n
tint_byte (negsuc n) = 255 - n

unfoldable pub video_in : List ℕ → Video
video_in bytes = record {
  brightness = get_or bytes 0 0;
  colour = get_or bytes 1 0;
  contrast = get_or bytes 2 0;
  sharpness = get_or bytes 3 0;
  tint = tint_of (get_or bytes 4 0);
  black = get_or bytes 5 0;
  gamma = get_or bytes 6 0;
}

unfoldable pub bytes_of : Video → List ℕ
bytes_of v = v.brightness ∷ v.colour ∷ v.contrast ∷ v.sharpness ∷ tint_byte v.tint ∷ v.black ∷ v.gamma ∷ []
