-- `Laws` has what callers cite of walls and tables, `Index` of a table's index, `Values` of a panel's values, `Formed` that every
-- call keeps tables well-formed.
pub mod Values
pub mod Laws
pub mod Index
pub mod Formed
