-- `Laws` has the laws of XOR, of two numbers and over a list.
pub mod Laws
