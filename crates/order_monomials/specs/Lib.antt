pub mod Ascending
pub mod Listed
pub mod Texts
