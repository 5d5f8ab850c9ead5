pub mod Readings
pub mod TreeValues
pub mod Members
pub mod Showing
pub mod ByNumber
pub mod Writing
pub mod OnWay
