pub mod Widths
pub mod Walk
pub mod Values
