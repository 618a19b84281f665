-- `Moves` has when a call answers which move, `Answers` what a call's plain answers mean, `EachMove` that what holds of each kind of
-- move holds of every step.
pub mod Moves
pub mod Answers
pub mod EachMove
