-- `Orders` has what an order says of the data that it was made of, `Reports` a report's bytes, `Turned` what a packet makes of a
-- panel, `Turns` what a burst comes to and in which places, `Entries` what it leaves by what the table has of its names, `Readings`
-- what a reading does by its verdict, `Formed` that a burst keeps a wall good, `Others` what goes by one row alone, `Passes` a change that goes
-- over a table place by place, `Lengths` how many bytes went out, `Longest` how much data a command has at most.
pub mod Orders
pub mod Reports
pub mod Turned
pub mod Turns
pub mod Entries
pub mod Readings
pub mod Formed
pub mod Others
pub mod Passes
pub mod Lengths
pub mod Longest
