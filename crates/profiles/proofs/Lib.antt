-- A tint and its byte are each the other's way back.
pub mod Tints
