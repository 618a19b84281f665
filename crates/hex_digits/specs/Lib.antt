-- What is right of digits.
pub mod Digits
