pub mod Sessions
pub mod Places
pub mod Faults
