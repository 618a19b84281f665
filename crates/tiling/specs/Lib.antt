-- What is right of tiling. `Walls` is a wall's height and width in one byte, `Kinds` the two kinds of panel.
pub mod Walls
pub mod Kinds
