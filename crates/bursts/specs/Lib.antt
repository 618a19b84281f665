-- What is right of bursts one behind the other. `Bursts` is a list of them, `Left` what is left of one that is taken apart.
pub mod Bursts
pub mod Left
