pub mod Front
pub mod Log
pub mod Index
pub mod Elements
pub mod Lacks
pub mod Chained
pub mod Known
