pub mod Paths
pub mod Cutting
pub mod Opening
pub mod Running
pub mod Telling
pub mod Written
