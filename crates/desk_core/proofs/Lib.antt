pub mod Answering
pub mod Keeps
pub mod Rows
pub mod Walks
pub mod Groups
