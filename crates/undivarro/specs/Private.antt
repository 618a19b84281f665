-- What only this crate's contracts cite: `Refused` is what a call is refused by.
pub mod Refused
