pub mod Replayed
pub mod Fetch
