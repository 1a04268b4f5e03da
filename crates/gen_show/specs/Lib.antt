pub mod BundleText
pub mod CampaignText
pub mod EvidenceText
pub mod HeaderText
pub mod LogText
pub mod Offsets
pub mod Showing
