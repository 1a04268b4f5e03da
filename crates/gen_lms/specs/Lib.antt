pub mod Forging
pub mod Heights
pub mod Laws
pub mod Loops
pub mod PublicKeys
pub mod Rings
pub mod Signatures
pub mod Tree
