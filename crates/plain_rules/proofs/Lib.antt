pub mod Contexts
pub mod Clearing
pub mod Mapped
pub mod Placing
pub mod Descending
pub mod Replaying
pub mod Copies
pub mod Marked
