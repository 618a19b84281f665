-- `Words` has what data says by its bytes, `Packets` what a request's packet reads as, `Sets` how many values a set has.
pub mod Words
pub mod Packets
pub mod Sets
