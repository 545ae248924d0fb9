pub mod Layout
pub mod Periods
pub mod Format
pub mod Kinds
