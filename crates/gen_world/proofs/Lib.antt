pub mod Arriving
pub mod ParticipantHearing
pub mod Rounding
pub mod RowHearing
pub mod RowSenders
