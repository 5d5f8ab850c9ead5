pub mod Lends
pub mod SmallVec
