pub mod Accusing
pub mod Giving
pub mod Telling
pub mod Told
pub mod ToldData
pub mod ToldFacts
pub mod ToldText
