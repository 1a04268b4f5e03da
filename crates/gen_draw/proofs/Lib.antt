pub mod Between
pub mod Chains
pub mod Drawings
pub mod Held
pub mod Ranges
pub mod Same
pub mod Saying
