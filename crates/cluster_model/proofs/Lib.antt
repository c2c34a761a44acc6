pub mod Following
pub mod Weights
pub mod Steps
pub mod Receiving
pub mod Keying
pub mod Numbering
