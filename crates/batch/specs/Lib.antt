-- `Scene` is what a list of bursts comes to.
pub mod Scene
