pub mod PlainEntries
pub mod PlainShown
pub mod PlainVerdicts
pub mod Ranges
