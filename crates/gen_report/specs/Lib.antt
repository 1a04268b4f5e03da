pub mod Decisions
pub mod Findings
pub mod VerdictText
