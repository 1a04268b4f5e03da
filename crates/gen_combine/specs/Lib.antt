pub mod Combined
pub mod Numbered
