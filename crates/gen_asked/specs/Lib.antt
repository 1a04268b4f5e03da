pub mod AskedRuns
pub mod Faulty
pub mod Ranges
