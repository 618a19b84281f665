-- What is right of writing. `Written` is the bytes of a table's image.
pub mod Written
pub mod Private
