pub mod PlainCampaigns
pub mod PlainSeveral
pub mod ShownLines
