-- Laws of bursts one behind the other: `Bursts` of the first and those behind it, `Walks` of a list from a place on, `Lists` of one
-- that is taken apart.
pub mod Bursts
pub mod Walks
pub mod Lists
