pub mod Lines
pub mod Requests
pub mod Found
pub mod Refusing
pub mod Stated
pub mod Texts
pub mod Pieces
