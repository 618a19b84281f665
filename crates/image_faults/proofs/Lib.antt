-- `Laws` has how long a line can be.
pub mod Laws
