-- What is right of the panels. `Wall` is a wall of panels and the table that holds it, `Addressed` who is addressed, `WellFormed`
-- what holds of every table that the box comes to.
pub mod Wall
pub mod Addressed
pub mod WellFormed
