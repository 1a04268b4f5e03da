-- Texts that a loop compares. No public contract speaks of them.
pub mod Alone
