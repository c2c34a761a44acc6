pub mod Numbers
pub mod Queueing
pub mod Stores
pub mod Streams
pub mod Kept
