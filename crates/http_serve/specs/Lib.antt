pub mod Faults
pub mod Answers
pub mod Arrivals
pub mod Deeds
pub mod Seated
