pub mod Refusal
pub mod Found
