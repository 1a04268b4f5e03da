pub mod Appending
pub mod Held
pub mod Told
