-- What only this crate's contracts cite: `Marked` is a record as the code salvages it.
pub mod Marked
