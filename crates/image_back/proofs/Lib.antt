-- `Split` has that an image made of records has these records, `Back` that reading what was written gives that table, `Held`
-- that a form holds whatever is read from its images.
pub mod Split
pub mod Back
pub mod Held
