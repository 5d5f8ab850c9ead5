pub mod Walk
pub mod Nodes
pub mod PresenceAlong
pub mod Writes
pub mod Growth
pub mod Numbers
pub mod ListPresence
pub mod HasPresence
