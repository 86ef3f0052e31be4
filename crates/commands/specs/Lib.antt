pub mod Words
pub mod Matching
pub mod Listing
pub mod Walking
pub mod Checking
pub mod Stops
