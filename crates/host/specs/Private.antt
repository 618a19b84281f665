-- What only this crate's contracts and theorems cite: `Steps` is how answers are made.
pub mod Steps
