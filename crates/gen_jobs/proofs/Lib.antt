pub mod Accepted
pub mod AcceptedCampaigns
pub mod Audited
pub mod JudgedRuns
pub mod Unwritten
