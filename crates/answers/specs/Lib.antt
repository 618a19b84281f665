-- What is right of the answers. `Reply` is an answer and the bytes that go out, `Judged` what one panel makes of a command,
-- `Played` a burst's outcome by what was read of it, `Session` many bursts, `Sample` 01's sample wall; `Turn` is how the box
-- comes to a burst's outcome by the table's index.
pub mod Reply
pub mod Judged
pub mod Played
pub mod Session
pub mod Turn
pub mod Sample
pub mod Private
