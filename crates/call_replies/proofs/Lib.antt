pub mod Progress
pub mod Replying
