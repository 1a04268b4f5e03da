pub mod Rows
pub mod Shown
pub mod Table
pub mod Worded
