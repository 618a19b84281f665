-- What is right of the host side. `Heard` what a burst says to the host that waits,
-- `Machine` the host as a machine over happenings, `Calls` what each call answers, `Words` how an outcome prints.
pub mod Heard
pub mod Machine
pub mod Calls
pub mod Words
pub mod Private
