pub mod Hexes
pub mod Joining
pub mod LineAgain
pub mod LineFound
pub mod PathSteps
pub mod PathTexts
pub mod Words
