-- `Failed` has what had been taken where reading failed, `Runs` what each step of a run keeps, `Spelled` the digits of many bytes.
pub mod Failed
pub mod Runs
pub mod Spelled
