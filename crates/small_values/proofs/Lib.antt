pub mod Made
mod OneElement
