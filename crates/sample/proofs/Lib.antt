-- `First` is the wall of one panel, which the programs' walls begin with, `Sent` what of a packet goes out.
pub mod First
pub mod Sent
