pub mod Digits
pub mod FieldReading
pub mod Line
pub mod LineReading
pub mod NamedPath
pub mod PathReading
pub mod Script
