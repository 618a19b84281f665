-- What is right of the settings. `Settings` is the paper's table and what it says of a row, `Profiles` the profiles' numbers.
pub mod Settings
pub mod Profiles
pub mod Private
