-- What holds during loops and of private functions. No public contract names these definitions.
pub mod Cuts
pub mod Search
