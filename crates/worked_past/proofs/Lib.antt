pub mod Pasts
