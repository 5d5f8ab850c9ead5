pub mod Batches
mod ReadBack
pub mod Texts
mod Logs
pub mod DocLemmas
pub mod InOrder
mod Makers
mod Lines
mod ByName
pub mod Reporting
mod Fronts
