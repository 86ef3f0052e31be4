pub mod Levels
pub mod Reasons
pub mod Sites
