-- The tiling is the four values from the third on. Assumes nothing.
use Rattle.std.proofs.Common.{◌≡◌, refl}
use mathlib.Core.List.{flatten}
use Rattle.settings.specs.Settings.{settings, allowed_by_row, place, tiling_row}

pub third : place tiling_row ≡ 2
unfolding settings allowed_by_row flatten
third = refl
