pub mod Questions
pub mod Buffers
pub mod Explained
pub mod Queries
pub mod Watched
pub mod Searched
pub mod Stored
