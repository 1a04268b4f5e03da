pub mod Answering
pub mod Ends
pub mod Failing
pub mod FaultLines
