mod Rows
pub mod RowLemmas
pub mod BatchLemmas
pub mod NextLemmas
pub mod SortLemmas
pub mod OneLog
mod EntryLemmas
mod Reading
mod StateLemmas
pub mod RunLemmas
mod EntryWrites
mod MakeLemmas
pub mod ReadLemmas
pub mod SelectLemmas
pub mod TextLemmas
mod ListLemmas
pub mod ModeLemmas
pub mod TextRowLemmas
pub mod InsertLemmas
pub mod UpdateLemmas
