-- `Walls` is the arithmetic of height and width, whatever the widest and the highest wall; `Sizes` what it says of the two kinds;
-- `Numbers` that a kind's number is that kind's.
pub mod Walls
pub mod Sizes
pub mod Numbers
