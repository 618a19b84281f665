-- A kind's number is that kind's. Assumes nothing.
use mathlib.Core.Path.{◌≡◌, refl}
use Rattle.tiling.specs.declared.Kind.{Kind}
use Rattle.std.specs.Prelude.{Some}
use Rattle.tiling.specs.Kinds.{kind_number, kind_with}

pub number_back : (kind : Kind) → kind_with (kind_number kind) ≡ Some kind
unfolding kind_with
number_back Kind.FiveByFive = refl
number_back Kind.FifteenByTen = refl
