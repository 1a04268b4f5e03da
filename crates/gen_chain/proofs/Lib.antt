pub mod ChainLaws
pub mod DistinctPaths
pub mod KeptAnswers
pub mod LongerChains
pub mod Parts
mod Room
mod SignedClaims
mod SignedFour
pub mod SignedSoFar
mod StoredInTurn
mod StoredSoFar
pub mod Storing
pub mod TestedChains
pub mod TakenAnswers
