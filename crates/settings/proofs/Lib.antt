-- `Laws` has what callers cite of the settings, `Profiles` that a profile's number is that profile's.
pub mod Laws
pub mod Profiles
