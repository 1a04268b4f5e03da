pub mod BundleLengths
pub mod EvidenceLengths
pub mod Lengths
