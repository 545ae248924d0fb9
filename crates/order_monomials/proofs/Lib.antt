pub mod Sorting
pub mod Table
