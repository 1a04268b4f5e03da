-- Definitions that only loops and the functions inside them use.
pub mod Acting
pub mod Deciding
pub mod Journals
pub mod Relays
pub mod Roles
