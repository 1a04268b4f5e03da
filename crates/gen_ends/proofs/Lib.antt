pub mod Delivering
pub mod Known
pub mod Reading
