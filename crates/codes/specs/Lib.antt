-- What is right of finding a row by its code.
pub mod Found
