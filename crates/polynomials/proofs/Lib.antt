pub mod Polynomials
pub mod Coefficients
pub mod Subjects
pub mod Wrapping
pub mod Arrays
pub mod Points
pub mod Terms
