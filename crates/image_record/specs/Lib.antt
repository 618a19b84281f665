-- What is right of a record: `Head` its head, `Field` the field at the front of its bytes, `Run` fields taken one after the other.
pub mod Head
pub mod Field
pub mod Run
