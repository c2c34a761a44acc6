pub mod Lists
pub mod Tables
pub mod Names
pub mod Held
pub mod Changes
