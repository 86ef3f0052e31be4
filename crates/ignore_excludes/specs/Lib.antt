pub mod Excludes
pub mod ExcludesSearch
