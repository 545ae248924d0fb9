pub mod Checks
pub mod Variables
pub mod ArrayGrounds
pub mod PointGrounds
