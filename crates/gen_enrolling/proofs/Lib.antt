pub mod Enrolled
pub mod Gathered
pub mod Lexed
pub mod Missing
pub mod Putting
pub mod Told
pub mod ToldReading
pub mod Writing
