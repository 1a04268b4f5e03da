-- Definitions that only the inner functions of the crate use.
pub mod Kept
