pub mod Links
pub mod Updates
