pub mod Limits
pub mod Reading
pub mod Written
pub mod Refused
pub mod Replies
pub mod Loading
pub mod Writing
