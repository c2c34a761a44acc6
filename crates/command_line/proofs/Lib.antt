pub mod Reading
pub mod Local
pub mod Actions
pub mod Walks
pub mod Given
pub mod Taken
pub mod Forms
