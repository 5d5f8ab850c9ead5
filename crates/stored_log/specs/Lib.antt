pub mod Limits
pub mod Log
pub mod Batch
pub mod Image
pub mod Listed
pub mod Docs
pub mod Report
