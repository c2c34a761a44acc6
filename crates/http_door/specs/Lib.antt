pub mod Refusals
pub mod Deeds
pub mod Exchange
pub mod Turns
pub mod Memory
pub mod Function
