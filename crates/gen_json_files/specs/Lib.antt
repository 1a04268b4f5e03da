pub mod CampaignData
pub mod CampaignLines
pub mod ShowingLines
