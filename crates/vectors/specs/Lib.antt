pub mod Text
pub mod Agrees
pub mod Vectors
pub mod Tallies
pub mod Verdicts
pub mod Lines
