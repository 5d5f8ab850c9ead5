pub mod Steps
pub mod Equality
pub mod Fronts
pub mod FrontPairs
pub mod InChunks
