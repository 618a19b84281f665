-- What is right of what the programs over the box share.
pub mod Shown
