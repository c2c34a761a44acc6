mod Fronts
pub mod Places
pub mod Recorded
mod Runs
pub mod Taking
mod States
