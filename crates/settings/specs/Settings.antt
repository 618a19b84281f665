-- The nine settings as the papers have them, with the kind, and what they say of a row. 01, "The settings"; 02, A1 and A6.
use Rattle.std.specs.Prelude.{ℕ, Bool, true, false, ◌&&◌, ◌||◌, length, get_or, take, drop, replicate, leb}
use mathlib.Core.List.{List, [], ◌∷◌, ◌++◌, map, flatten}
use Rattle.lists.specs.Lists.{start_of, laid_at}
use Rattle.settings.specs.declared.Profile.{Profile}

-- the values from low to high
pub record Range : Type 0 where
  pub low : ℕ
  pub high : ℕ

-- a row: the set code, the get code, and by profile for each value byte its allowed ranges and its fresh value
pub record Setting : Type 0 where
  pub set : ℕ
  pub get : ℕ
  pub allowed : Profile → List (List Range)
  pub fresh : Profile → List ℕ

infixl 70 ◌to◌
abbrev pub ◌to◌ : ℕ → ℕ → List Range
a to b = record { low = a; high = b } ∷ []

-- a row that is the same for both profiles
abbrev pub row : ℕ → ℕ → List (List Range) → List ℕ → Setting
row s g a f = record { set = s; get = g; allowed = λ profile. a; fresh = λ profile. f }

-- 000, 5.1.2 and 5.1.3, brightness, colour, contrast, sharpness, tint, black level, gamma; with a table of its own for Phoenix
-- 2.0: sharpness 0 to 10, and a tint of -50 to 50, whose bytes are 206 to 255 below 0
abbrev pub video_allowed : Profile → List (List Range)
video_allowed Profile.General = replicate 6 (0 to 100) ++ 1 to 5 ∷ []
video_allowed Profile.Phoenix = replicate 3 (0 to 100) ++ 0 to 10 ∷ (0 to 50 ++ 206 to 255) ∷ 0 to 100 ∷ 1 to 5 ∷ []

abbrev pub video_fresh : Profile → List ℕ
video_fresh Profile.General = replicate 6 50 ++ 3 ∷ []
video_fresh Profile.Phoenix = replicate 3 50 ++ 5 ∷ 0 ∷ 50 ∷ 3 ∷ []

-- 0x00 is no command's code (01, "Answering a burst", step 4), and stands where a row has no get code
abbrev pub no_code : ℕ
no_code = 0x00

unfoldable pub settings : List Setting
settings =
    row 0x01 no_code (0 to 1 ∷ []) (0 ∷ [])  -- the kind, a field of images alone
    ∷ row 0x18 0x19 (1 to 2 ∷ []) (2 ∷ [])  -- power
    ∷ row 0x22 0x23 (0 to 1 ∷ 0 to 1 ∷ 0 to 255 ∷ 0 to 255 ∷ []) (0 ∷ 0 ∷ 1 ∷ 1 ∷ [])  -- tiling: enable, frame compensation, position, wall
    ∷ record { set = 0x32; get = 0x33; allowed = video_allowed; fresh = video_fresh }  -- video
    ∷ row 0x34 0x35 ((0 to 1 ++ 3 to 6 ++ 9 to 10 ++ 13 to 13) ∷ []) (1 ∷ [])  -- colour temperature
    ∷ row 0x42 0x43 (0 to 100 ∷ 0 to 100 ∷ []) (50 ∷ 50 ∷ [])  -- treble, bass
    ∷ row 0x61 0x62 (0 to 4 ∷ []) (1 ∷ [])  -- fan
    ∷ row 0xA3 0xA4 (0 to 2 ∷ []) (2 ∷ [])  -- cold start
    ∷ row 0xD0 0xD1 (0 to 3 ∷ []) (0 ∷ [])  -- APM
    ∷ row 0xDD 0xDE (0 to 3 ∷ []) (0 ∷ [])  -- power saving
    ∷ []

-- how many they are, how many value bytes they have in all, which are a panel's, and how many one has at most
abbrev pub row_count : ℕ
row_count = 10

abbrev pub value_count : ℕ
value_count = 20

abbrev pub most_values : ℕ
most_values = 7

-- the rows of the kind, of power, of tiling and of video
abbrev pub kind_row : ℕ
kind_row = 0

abbrev pub power_row : ℕ
power_row = 1

abbrev pub tiling_row : ℕ
tiling_row = 2

abbrev pub video_row : ℕ
video_row = 3

-- the values of power off; 001, 4.1.3
abbrev pub off : List ℕ
off = 1 ∷ []

-- row k, counted from 0
abbrev pub setting : ℕ → Setting
setting k = get_or settings k (row 0 0 [] [])

abbrev pub set_code : ℕ → ℕ
set_code k = (setting k).set

abbrev pub get_code : ℕ → ℕ
get_code k = (setting k).get

-- as many for either profile
abbrev pub byte_count : ℕ → ℕ
byte_count k = length ((setting k).allowed Profile.General)

-- A panel's value bytes are those of all settings, in the order of the rows.
unfoldable pub allowed_by_row : Profile → List (List (List Range))
allowed_by_row profile = map (λ (s : Setting). s.allowed profile) settings

unfoldable pub fresh_values : Profile → List ℕ
fresh_values profile = flatten (map (λ (s : Setting). s.fresh profile) settings)

-- where row k's values begin among them
abbrev pub place : ℕ → ℕ
place k = start_of (allowed_by_row Profile.General) k

-- v is in one of the ranges
unfoldable pub within : List Range → ℕ → Bool
within [] v = false
within (r ∷ rs) v = leb r.low v && leb v r.high || within rs v

-- as many values as there should be, each of them allowed
unfoldable pub all_allowed : List (List Range) → List ℕ → Bool
all_allowed [] [] = true
all_allowed [] (v ∷ vs) = false
all_allowed (a ∷ rest) [] = false
all_allowed (a ∷ rest) (v ∷ vs) = within a v && all_allowed rest vs

-- the bytes vs are in the ranges of row k, for this profile
abbrev pub in_ranges : Profile → ℕ → List ℕ → Bool
in_ranges profile k vs = all_allowed ((setting k).allowed profile) vs

-- the values of a row among a panel's, and a panel's values with those of a row stored
abbrev pub values_of : ℕ → List ℕ → List ℕ
values_of k values = take (byte_count k) (drop (place k) values)

abbrev pub values_with : ℕ → List ℕ → List ℕ → List ℕ
values_with k vs values = laid_at (place k) vs values
