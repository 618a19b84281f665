-- What is right of a line that plays standard input. `Played` is the table that it ends with.
pub mod Played
