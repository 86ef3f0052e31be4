pub mod Reading
pub mod Compared
pub mod Judged
pub mod Lines
pub mod Linted
pub mod Notes
pub mod Texts
