pub mod Buckets
pub mod Index
pub mod Others
pub mod Parents
pub mod Sets
