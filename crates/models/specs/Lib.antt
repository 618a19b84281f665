-- What is right of a panel's model.
pub mod Models
