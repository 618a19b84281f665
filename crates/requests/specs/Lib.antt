-- What is right of a request. `Request` is a request and its packet, `Said` what data says in answer to it.
pub mod Request
pub mod Said
