pub mod Drafts
pub mod Prepared
pub mod Records
pub mod Spared
pub mod Room
