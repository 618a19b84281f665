-- What only this crate's contracts cite: `Orders` is how the code judges.
pub mod Orders
