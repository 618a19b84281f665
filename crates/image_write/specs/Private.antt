-- What only this crate's contracts cite: `Sizes` is how the code adds a record's bytes up.
pub mod Sizes
