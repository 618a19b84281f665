-- `Steps` is what stands at the front of a record's bytes, `Gathering` the values on the way through its fields, `Runs` the run
-- over them, `Heads` the head; `OnTheWay` has a name that they share.
pub mod OnTheWay
pub mod Steps
pub mod Gathering
pub mod Runs
pub mod Heads
