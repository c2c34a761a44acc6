pub mod Ends
pub mod Looks
pub mod Rounds
pub mod Saves
pub mod Unanswered
