-- `Edges` is where the records of an image that is sound as a whole begin and end.
pub mod Edges
