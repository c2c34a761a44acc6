pub mod Lists
pub mod Sums
pub mod Parts
pub mod Dominant
