-- `FirstReceiver` has that the receiver that keeps a whole packet is one of any.
pub mod FirstReceiver
