-- `OnTheWay` is the entry of a row, `Steps` is the walk over a record's fields, `Marked` the IDs seen before, `Said` what a record
-- comes to by what its head says. The theorems: `Sound` that reading gives only well-formed tables, `Entries`, `ByCode` and `Order`
-- that fields go by code and not by place.
pub mod OnTheWay
pub mod Steps
pub mod Sound
pub mod Marked
pub mod Said
pub mod Entries
pub mod ByCode
pub mod Order
