pub mod Among
pub mod Ended
pub mod Headings
pub mod Listed
pub mod Names
