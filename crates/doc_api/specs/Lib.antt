pub mod Resolved
pub mod Words
