pub mod Agreement
pub mod Finished
pub mod Middle
pub mod Nexts
pub mod Stands
pub mod Suits
pub mod Survey
pub mod Surveyed
