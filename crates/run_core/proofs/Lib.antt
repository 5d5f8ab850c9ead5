pub mod Naming
pub mod Runs
pub mod Seating
