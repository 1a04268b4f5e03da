pub mod Explained
pub mod Matched
pub mod Named
pub mod OtherNames
pub mod Renamed
pub mod Signing
pub mod Theorem
