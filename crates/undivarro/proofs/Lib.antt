-- `Calls` has what the parts of a call leave together, `Bursts` those of a burst, `Batches` those of a batch, `Salvages` those of a
-- salvage.
pub mod Calls
pub mod Bursts
pub mod Batches
pub mod Salvages
