pub mod Drawings
pub mod Marks
pub mod Misreadings
pub mod Readings
