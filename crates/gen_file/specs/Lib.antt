pub mod EqualRootsText
pub mod FaultText
pub mod FileFaultText
pub mod Kinds
pub mod Lists
pub mod Parts
