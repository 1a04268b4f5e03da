mod EdgeLists
pub mod FrontLaws
pub mod HeaderLaws
pub mod Neighbours
pub mod PlacedEdges
mod Ranges
mod Rows
