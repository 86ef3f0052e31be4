pub mod Deciders
pub mod Folders
pub mod Walks
pub mod Walked
pub mod Closed
pub mod Differing
pub mod Missing
pub mod Agreeing
pub mod Pairs
pub mod Pushes
pub mod Overruling
pub mod RowLemmas
pub mod Saying
pub mod Texts
mod WorkedFindings
mod WorkedPaths
mod WorkedReasons
mod WorkedVerdicts
