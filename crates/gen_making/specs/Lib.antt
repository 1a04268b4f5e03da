pub mod Campaigning
pub mod Joining
pub mod Preparing
pub mod Run
