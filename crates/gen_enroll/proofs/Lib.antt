pub mod Cutting
pub mod Found
pub mod Pieces
pub mod Spelled
