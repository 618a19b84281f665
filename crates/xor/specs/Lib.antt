-- What XOR is.
pub mod Xor
