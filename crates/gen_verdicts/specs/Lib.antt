pub mod CampaignVerdictText
