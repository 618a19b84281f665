-- What is right of a small repeater's line. `Stream` is what any receiver makes of a line, `Small` the receiver that keeps the front of a
-- burst, `AnyReceiver` what holds of every receiver that reads as the whole burst is read, `Laws` that this one does.
pub mod Stream
pub mod Small
pub mod AnyReceiver
pub mod Laws
