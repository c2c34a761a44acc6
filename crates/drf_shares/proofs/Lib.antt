pub mod Lists
pub mod Summing
pub mod Dominating
pub mod Reaching
pub mod Fitting
