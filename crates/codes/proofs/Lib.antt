-- `Laws` has what callers cite of what is found.
pub mod Laws
