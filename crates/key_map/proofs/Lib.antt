pub mod KeyOrder
pub mod ByKeyLaws
pub mod BlockLaws
pub mod Gone
