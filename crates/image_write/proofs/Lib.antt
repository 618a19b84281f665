-- `Lengths` has the lengths of a record, of its parts and of the image, `Losing` which walls form 1 holds whole, `Parts` bytes put
-- into a part of the output.
pub mod Lengths
pub mod Losing
pub mod Parts
