pub mod Kept
pub mod SavesKept
pub mod Stops
