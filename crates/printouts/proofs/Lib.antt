pub mod Copies
pub mod WorkedOut
pub mod Texts
pub mod Admitting
