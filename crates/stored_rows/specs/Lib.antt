pub mod Rows
pub mod Accepted
pub mod Parsed
pub mod Shown
pub mod Steps
pub mod Statements
pub mod Tables
pub mod Content
