-- The kinds of panel, by the walls that they can stand in. 02, A6: 5 by 5, or 15 wide by 10 high; numbers 0 and 1.
use Rattle.std.specs.Prelude.{ℕ, ◌*◌, Bool, cond, ◌&&◌, eqb, Option, Some, None}
use Rattle.tiling.specs.declared.Kind.{Kind}
use Rattle.tiling.specs.declared.WallSize.{WallSize}
use Rattle.tiling.specs.Walls.{byte_of, height_of, width_of, up_to}

abbrev pub kind_number : Kind → ℕ
kind_number Kind.FiveByFive = 0
kind_number Kind.FifteenByTen = 1

unfoldable pub kind_with : ℕ → Option Kind
kind_with n = cond (eqb n 0) (Some Kind.FiveByFive) (cond (eqb n 1) (Some Kind.FifteenByTen) None)

abbrev pub widest : Kind → ℕ
widest Kind.FiveByFive = 5
widest Kind.FifteenByTen = 15

abbrev pub highest : Kind → ℕ
highest Kind.FiveByFive = 5
highest Kind.FifteenByTen = 10

-- the byte of the largest wall, and how many panels stand in it
abbrev pub largest : Kind → ℕ
largest kind = widest kind * highest kind

-- the byte of a height and a width that the kind has
unfoldable pub coded_as : Kind → ℕ → ℕ → Option ℕ
coded_as kind v h = cond (up_to (highest kind) v && up_to (widest kind) h) (Some (byte_of (widest kind) v h)) None

-- the height and the width that a byte says: exactly the bytes from 1 to the largest are walls
unfoldable pub size_in : Kind → ℕ → Option WallSize
size_in kind byte = cond (up_to (largest kind) byte) (Some (record { height = height_of (widest kind) byte; width = width_of (widest kind) byte })) None

-- a wall's positions run from 1 to H times V, from left to right and then down (002, 8.6.2, note 1)
unfoldable pub in_wall : Kind → ℕ → ℕ → Bool
in_wall kind position byte = up_to (largest kind) byte && up_to (height_of (widest kind) byte * width_of (widest kind) byte) position
