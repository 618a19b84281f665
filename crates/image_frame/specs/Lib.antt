-- What is right of an image as a whole: the trailer, where records begin and end, and 11 to 15.
pub mod Frame
