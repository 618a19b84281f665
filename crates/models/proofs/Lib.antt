-- `Laws` has what callers cite of a model, `Filled` what they cite of a tiling whose wall is 0.
pub mod Laws
pub mod Filled
