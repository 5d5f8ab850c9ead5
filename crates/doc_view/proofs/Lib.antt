pub mod Entries
pub mod Presence
pub mod Lists
pub mod Indexed
pub mod RoleValues
mod OnWay
mod Places
pub mod Leading
pub mod MapLaws
pub mod ShowLaws
pub mod ByNumber
pub mod Growing
pub mod Writing
pub mod WritingAll
mod Reading
