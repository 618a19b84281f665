-- What only this crate's contracts cite: `Parts` is how bytes are printed in parts.
pub mod Parts
