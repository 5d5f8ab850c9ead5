mod Held
mod Found
