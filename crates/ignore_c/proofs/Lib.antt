pub mod Owners
pub mod Faults
pub mod Making
