pub mod Counts
pub mod Rules
