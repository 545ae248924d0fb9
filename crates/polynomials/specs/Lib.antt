pub mod Polynomials
pub mod Subjects
pub mod Arrays
pub mod Points
pub mod Terms
