pub mod KeyOrder
pub mod ByKey
pub mod Blocks
