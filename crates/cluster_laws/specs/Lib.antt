pub mod Items
pub mod Premises
pub mod Parts
pub mod Runs
