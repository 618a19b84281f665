-- What is right of the table calls.
pub mod Calls
