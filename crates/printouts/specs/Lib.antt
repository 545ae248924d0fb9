pub mod Printouts
