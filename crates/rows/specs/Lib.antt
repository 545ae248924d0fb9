pub mod Ideals
pub mod Lines
pub mod Sheets
pub mod Rows
pub mod Continuation
pub mod Remainders
pub mod Theorems
