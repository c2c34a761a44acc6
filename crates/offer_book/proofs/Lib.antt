pub mod Ids
pub mod Placing
pub mod Taking
pub mod Standing
pub mod Changing
pub mod Naming
pub mod Indexing
pub mod Choosing
pub mod Summing
mod Walking
pub mod Gathering
