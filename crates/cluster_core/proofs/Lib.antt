pub mod Found
pub mod Mailing
pub mod Posted
pub mod Puttings
pub mod RunSteps
pub mod SafeStories
pub mod Telling
pub mod Firsts
