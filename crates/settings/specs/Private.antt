-- What only this crate's contracts cite: `Numbers` is how the code's const table has the paper's.
pub mod Numbers
