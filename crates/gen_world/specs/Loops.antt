-- Definitions that only loops and the functions inside them use.
pub mod Rounds
