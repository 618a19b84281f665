-- What is right of reading, in the paper's order: `Fields` the fields of a record, `Read` the records in order. `Entries` is the
-- fields whatever their order.
pub mod Fields
pub mod Read
pub mod Entries
