pub mod CutFiles
pub mod FaultNumber
pub mod Loops
pub mod Pieces
pub mod RootFiles
pub mod RootReading
pub mod Taking
