-- What only this crate's contracts cite: `Texts` is the text that a line has so far.
pub mod Texts
