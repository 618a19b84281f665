-- `Refusals` is why a setup image is refused, and the numbers that several rooms give.
pub mod Refusals
