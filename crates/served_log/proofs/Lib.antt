mod Lines
mod Restored
mod Keeping
mod Left
mod Storing
pub mod Adding
mod Knowing
mod Logged
mod OwnNames
