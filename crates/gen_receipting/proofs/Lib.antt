pub mod Accused
pub mod Given
pub mod PlainTold
