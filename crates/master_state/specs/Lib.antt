pub mod States
pub mod Works
pub mod Greetings
pub mod Frameworks
pub mod OpenStreams
pub mod LastRound
pub mod Starts
