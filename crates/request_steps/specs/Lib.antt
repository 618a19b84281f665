-- What a step of the programs says of a request.
pub mod Steps
