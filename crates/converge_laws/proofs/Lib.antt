pub mod Pulls
pub mod Sets
pub mod Replays
pub mod Fetched
