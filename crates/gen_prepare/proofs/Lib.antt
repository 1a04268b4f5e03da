pub mod HeaderAgain
pub mod HeaderFound
pub mod HeaderGiven
pub mod NetAgain
pub mod NetFound
pub mod Ordered
pub mod Parts
pub mod RootLoop
