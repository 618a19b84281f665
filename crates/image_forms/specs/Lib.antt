-- What differs between the forms of a setup image.
pub mod Forms
