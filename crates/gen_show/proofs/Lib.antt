mod Chains
pub mod Offsets
