-- What is right of faults and the lines that tell them.
pub mod Lines
pub mod Private
