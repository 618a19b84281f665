-- The laws of lists: `Each` of lists made by a rule, `Flat` of lists one behind the other, `Laid` of bytes laid over others,
-- `Places` of lists that are changed place by place, `Mapped` of a rule applied to every element, `Same` of bytes compared;
-- `Both` is one of tests, `Sizes` one of numbers.
pub mod Each
pub mod Flat
pub mod Laid
pub mod Places
pub mod Mapped
pub mod Both
pub mod Same
pub mod Sizes
