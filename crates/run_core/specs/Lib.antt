pub mod Limits
pub mod Names
pub mod Served
pub mod HasTold
