-- What is right of one line. `Any` is what is asked of any receiver, `Receiver` what the one that keeps a whole packet makes of the
-- line's bytes and quiet marks, `Streams` that it answers as is asked, and that a stream is the session of its bursts.
pub mod Any
pub mod Receiver
pub mod Streams
