pub mod Accusing
pub mod Asking
pub mod Audit
pub mod AuditFacts
pub mod Checking
pub mod Drawing
pub mod Holding
pub mod Origins
