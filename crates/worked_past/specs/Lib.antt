pub mod WorkedPast
