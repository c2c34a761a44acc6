pub mod Found
pub mod Kept
pub mod Receipts
pub mod Refused
pub mod Seats
pub mod Walked
pub mod Groups
