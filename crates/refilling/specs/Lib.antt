pub mod Refills
pub mod Borders
pub mod Tables
pub mod Walks
