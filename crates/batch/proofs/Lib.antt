-- `Counted` has an answer behind its count, `Scenes` a list that is taken or refused, and one that is played up to a burst, `Kept` what
-- bursts keep of a table.
pub mod Counted
pub mod Scenes
pub mod Kept
