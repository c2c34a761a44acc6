pub mod Faults
pub mod Names
pub mod Rows
pub mod Texts
pub mod Merging
pub mod Laws
