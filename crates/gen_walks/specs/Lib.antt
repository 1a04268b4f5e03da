pub mod BestWalks
pub mod Faults
pub mod Levels
pub mod Loops
pub mod Walks
