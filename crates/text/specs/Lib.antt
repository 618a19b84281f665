-- What the programs read and print. `Hex` is bytes as upper-case hex digits, `Steps` what is known of a step that was read, `Runs`
-- a call for each of them, `Counts` a count of what stands at the front.
pub mod Counts
pub mod Hex
pub mod Private
pub mod Runs
pub mod Steps
