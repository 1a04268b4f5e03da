pub mod Facts
pub mod Statuses
