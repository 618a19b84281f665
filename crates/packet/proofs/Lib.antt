-- `EachEdition` has what holds of both editions; `Packets` that a packet written out reads back; `Damages` that just an intact burst and
-- an empty one have no damage; `Readings` what is read of a burst too long; `ByFront` the same
-- of a burst by its front; `Fronts` that its front reads as the burst; `Spoiled` that a spoiled intact burst is damaged.
pub mod EachEdition
pub mod Packets
pub mod Damages
pub mod Readings
pub mod ByFront
pub mod Fronts
pub mod Spoiled
