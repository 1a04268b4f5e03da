pub mod Accused
pub mod AccusedRuns
pub mod AskedFaults
pub mod Drawn
pub mod Held
pub mod Shown
