pub mod Keys
pub mod OneSided
pub mod Ranked
pub mod Rest
pub mod Sourcing
pub mod Strays
