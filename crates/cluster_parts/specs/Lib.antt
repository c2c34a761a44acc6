pub mod Taking
pub mod Masters
pub mod Posts
pub mod Handing
pub mod Receiving
pub mod Restarting
pub mod Opening
pub mod Parts
