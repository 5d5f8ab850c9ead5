pub mod AgreesWith
pub mod Whole
pub mod Memory
pub mod Outcomes
pub mod Resolved
pub mod Misfits
