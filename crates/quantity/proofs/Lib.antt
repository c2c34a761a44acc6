pub mod Texts
pub mod Orders
pub mod Amounts
pub mod Rests
pub mod Sums
pub mod Walks
pub mod Adds
