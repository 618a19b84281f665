-- `Laying` is text laid piece behind piece where what is to come is known, `Walk` the walk over a record's fields, `Bounds` how
-- many faults it can tell, `Loop` that walk as the code comes round, `Rounds` the loop over the records. The theorems: `Sound` that
-- what is kept is well-formed, `Told` how many lines there are and how long they are, `KeptWalk` that what is kept of a record is a
-- walk over its fields (`Walked`), for which there are runs enough (`Unseen`).
pub mod Laying
pub mod Walk
pub mod Bounds
pub mod Loop
pub mod Sound
pub mod Rounds
pub mod Told
pub mod Unseen
pub mod Walked
pub mod KeptWalk
