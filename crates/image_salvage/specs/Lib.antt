-- What is right of salvage: `Kept` what is kept of a record's fields, `Salvaged` the records in order, and the lines.
pub mod Kept
pub mod Salvaged
pub mod Private
