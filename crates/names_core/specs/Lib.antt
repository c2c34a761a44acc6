pub mod Ids
pub mod Names
pub mod States
pub mod Updates
pub mod Weights
