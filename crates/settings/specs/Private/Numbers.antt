-- The code's const table: the paper's, with the first range of each value byte apart from any more, since most have but one,
-- and with a Phoenix panel's video beside the rows of a general panel, since all else is alike.
use Rattle.std.specs.Prelude.{ℕ, suc, Bool, ◌&&◌, leb, eqb, get_or, drop}
use mathlib.Core.List.{List, [], ◌∷◌, ◌++◌, map, flatten}
use Rattle.lists.specs.Lists.{each}
use Rattle.settings.specs.declared.Profile.{Profile}
use Rattle.settings.specs.Settings.{Range, set_code, get_code, byte_count, place, video_allowed, video_fresh, allowed_by_row, fresh_values, row_count, value_count, most_values}
use Rattle.settings.specs.declared.Codes.{Codes}
use Rattle.settings.specs.declared.Values.{Values}
use Rattle.settings.specs.declared.Span.{Span}
use Rattle.settings.specs.declared.More.{More}
use Rattle.settings.specs.declared.Table.{Table}

abbrev pub in_range : Range → ℕ → Bool
in_range r v = leb r.low v && leb v r.high

abbrev pub codes_at : ℕ → Codes
codes_at k = record { 0 = set_code k; 1 = get_code k }

abbrev pub values_at : ℕ → Values
values_at k = record { 0 = byte_count k; 1 = place k }

-- what is allowed at each of a general panel's value bytes
unfoldable pub allowed_values : List (List Range)
allowed_values = flatten (allowed_by_row Profile.General)

-- the ranges of the value at place p, and the first of them
abbrev pub ranges_of : ℕ → List Range
ranges_of p = get_or allowed_values p []

abbrev pub first_of : List Range → Range
first_of ranges = get_or ranges 0 (record { low = 0; high = 0 })

abbrev pub first_range : ℕ → Range
first_range p = first_of (ranges_of p)

-- and the first of value k of a Phoenix panel's video
abbrev pub video_range : ℕ → Range
video_range k = first_of (get_or (video_allowed Profile.Phoenix) k [])

abbrev pub span_of : Range → Span
span_of r = record { 0 = r.low; 1 = r.high }

abbrev pub range_of : Span → Range
range_of s = record { low = s.0; high = s.1 }

-- the ranges behind the first of each value byte, from place p on
abbrev pub more_from : ℕ → List (List Range) → List More
more_from p [] = []
more_from p (rs ∷ rest) = map (λ (r : Range). record { 0 = p; 1 = r.low; 2 = r.high }) (drop 1 rs) ++ more_from (suc p) rest

-- v is in one more range, which is of place p
abbrev pub is_more : ℕ → ℕ → More → Bool
is_more p v m = eqb m.0 p && in_range (record { low = m.1; high = m.2 }) v

-- the one such range of a Phoenix panel's video: the tint's below 0
abbrev pub tint_below : More
tint_below = get_or (more_from 0 (video_allowed Profile.Phoenix)) 0 (record { 0 = 0; 1 = 0; 2 = 0 })

unfoldable pub paper_table : Table
paper_table = record {
  codes = each codes_at row_count;
  values = each values_at row_count;
  ranges = each (λ p. span_of (first_range p)) value_count;
  more = more_from 0 allowed_values;
  fresh = fresh_values Profile.General;
  phoenix = record {
    ranges = each (λ k. span_of (video_range k)) most_values;
    below = tint_below;
    fresh = video_fresh Profile.Phoenix;
  };
}
