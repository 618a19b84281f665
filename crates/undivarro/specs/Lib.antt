-- `Calls` is what the exported functions leave. `Private` has words of its own parts.
pub mod Calls
pub mod Private
