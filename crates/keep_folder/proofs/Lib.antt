pub mod ClosingLemmas
pub mod Refused
pub mod Folded
