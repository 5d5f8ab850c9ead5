pub mod Chunks
pub mod KeptCounters
pub mod Front
