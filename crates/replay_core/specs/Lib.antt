pub mod Stories
pub mod Outcomes
pub mod Tables
pub mod Replays
pub mod Laws
