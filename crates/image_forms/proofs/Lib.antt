-- `Laws` has that each form reads what it writes, its form byte and a record's head, and which panels a form keeps.
pub mod Laws
