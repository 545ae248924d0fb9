pub mod Echelons
pub mod Images
pub mod Clearings
pub mod Remainders
