pub mod Cited
pub mod Decides
pub mod QueryWhy
pub mod Texts
