-- What is right of one burst. `Edition` is the editions and all in which they differ, `Packet` the packet's form, what is wrong with
-- a burst, the verdict on it and a packet written out, `Reading` what a burst says, `Front` what it says by its front, `Control` the
-- three control words, `Answered` whether an answer is due, `Spoiled` what noise does to a burst, `Words` how what is wrong with
-- it prints.
pub mod Edition
pub mod Packet
pub mod Reading
pub mod Front
pub mod Control
pub mod Answered
pub mod Spoiled
pub mod Words
