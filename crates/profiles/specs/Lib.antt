-- What is right of a Phoenix panel's video: its bytes, and what a caller sees.
pub mod Video
