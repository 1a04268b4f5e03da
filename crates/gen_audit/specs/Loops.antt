-- Definitions of which only loops and private functions speak.
pub mod Dealing
pub mod Ended
pub mod Hands
pub mod Started
