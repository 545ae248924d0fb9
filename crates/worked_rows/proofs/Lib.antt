pub mod Tests
pub mod Waits
pub mod Stands
pub mod Polynomials
pub mod Written
pub mod Sequence
