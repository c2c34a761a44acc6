pub mod Tasks
pub mod Streams
pub mod Ends
pub mod Reconciles
pub mod Declines
pub mod Holding
pub mod Accepts
pub mod Launches
