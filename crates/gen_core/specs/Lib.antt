pub mod Keeping
pub mod Loops
pub mod Paths
pub mod Seeing
pub mod Sending
