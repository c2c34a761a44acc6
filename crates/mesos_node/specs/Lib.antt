pub mod Commands
pub mod Ends
pub mod Refusals
pub mod Statuses
