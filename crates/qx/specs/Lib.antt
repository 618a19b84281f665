-- What is right of a request for a QX panel. `Message` is the form of its packets and answers, `Asked` what a request asks of the
-- panel, `Translation` the packets that it becomes, `Replies` what the answers to them say.
pub mod Message
pub mod Asked
pub mod Translation
pub mod Replies
