pub mod Orders
pub mod Finite
pub mod Leftmost
pub mod Exponents
